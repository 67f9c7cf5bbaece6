use Rattle.std.proofs.Common.{◌≡◌, ◌+◌, drop, length, take}
use Rattle.std.specs.List.{All}
use Rattle.donor_book.specs.Passes.{BookName}
use Rattle.class_books.specs.ClassPasses.{ClassPassState}
use Rattle.class_books.specs.inner.Hands.{IsNext, with_class}
use Rattle.class_books.proofs.shared.deal.Given as goal

abbrev pub invariant-loop-class_pass : goal.invariant-loop-class_pass
invariant-loop-class_pass l = record {
  left : length l.passes.items + l.class_pass-index ≡ length l.initial.class_pass-items;
  rest : drop l.class_pass-index l.class_pass-items ≡ drop l.class_pass-index l.initial.class_pass-items;
  next : All (λ class_pass. All (IsNext class_pass) l.passes.items) l.initial.class_pass-items;
  books : (book : BookName) → All (λ pass. pass.book ≡ book) l.initial.passes.items → All (λ pass. pass.book ≡ book) l.passes.items;
  dealt : (old : ClassPassState) (book : BookName) → All (λ pass. pass ≡ old) l.initial.class_pass-items → All (λ pass. pass.book ≡ book) l.initial.passes.items
      → All (λ pass. pass ≡ with_class old book) (take l.class_pass-index l.class_pass-items);
}

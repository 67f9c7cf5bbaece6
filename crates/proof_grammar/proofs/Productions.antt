use Rattle.std.proofs.Common.{◌≡◌, ◌≢◌, ℕ, zero, suc, List, [], ◌∷◌, ◌++◌, Option, Some, None, Result, Ok, Err, refl, sym, ap, ◌∙◌, subst, append_assoc}
use Rattle.std.proofs.Common.{append-nil}
use Rattle.std.specs.List.{flat_map}
use Rattle.proof_grammar.specs.inner.Readings.{Reading, line_read, read_line, read_many, seen, then_read}

-- Productions: what they print, how they are read at the front of lines, and where reading stops. Each law is proved once for each way of joining them.

-- what is left behind
abbrev behind : {L X : Type 0} → Reading L X → List L
behind (Err left) = left
behind (Ok (x, rest)) = rest

abbrev value_or : {L X : Type 0} → X → Reading L X → X
value_or d (Err left) = d
value_or d (Ok (x, rest)) = x

-- no such line goes on from here, whatever follows it
abbrev pub Stuck : {L X : Type 0} → (List L → Reading L X) → List L → List L → Type 0
Stuck read front [] = Unit {0}
Stuck {L} read front (l ∷ later) = (other : List L) → read (front ++ l ∷ other) ≡ Err (l ∷ other)

-- the lines before those that are left begin what a good value prints, and do not end it; and the next one does not go on
pub record Stops {L X : Type 0} (Good : X → Type 0) (print : X → List L) (read : List L → Reading L X) (ls left : List L) : Type 0 where
  pub front : List L
  pub split : ls ≡ front ++ left
  pub begun : X
  pub good : Good begun
  pub next : L
  pub more : List L
  pub begins : print begun ≡ front ++ next ∷ more
  pub stuck : Stuck read front left

-- good values can be read from what they print, and where there is none reading stops at the first line that can't go on
pub record Production {L X : Type 0} (Good : X → Type 0) (print : X → List L) : Type 0 where
  pub read : List L → Reading L X
  pub sample : X
  pub sound_sample : Good sample
  pub again : (x : X) (rest : List L) → Good x → read (print x ++ rest) ≡ Ok (x, rest)
  pub found : (ls : List L) (x : X) (rest : List L) → read ls ≡ Ok (x, rest) → Good x × (ls ≡ print x ++ rest)
  pub stops : (ls left : List L) → read ls ≡ Err left → Stops Good print read ls left

-- a value that was read before, beside what is read
abbrev pub paired : {L X Y : Type 0} → X → Reading L Y → Reading L (X × Y)
paired x (Err left) = Err left
paired x (Ok (y, rest)) = Ok ((x, y), rest)

-- ---- all of the lines

abbrev pub whole_of : {L X : Type 0} → Reading L X → Result X (List L)
whole_of (Err left) = Err left
whole_of (Ok (x, [])) = Ok x
whole_of (Ok (x, l ∷ rest)) = Err (l ∷ rest)

module _ {L X : Type 0} (Good : X → Type 0) (print : X → List L) (A : Production Good print) where
  -- what is read of all lines is good, and they are what it prints
  pub whole-found : (ls : List L) (x : X) → whole_of (A.read ls) ≡ Ok x → Good x × (ls ≡ print x)
  whole-found ls x e = by (A.read ls) refl e
    where
      by : (r : Reading L X) → A.read ls ≡ r → whole_of r ≡ Ok x → Good x × (ls ≡ print x)
      by (Err left) is h = absurd (cc)
      by (Ok (y, [])) is h =
          let (good, same) = A.found ls y [] is in
          let own : y ≡ x = cc in (subst (λ (z : X). Good z) own good, same ∙ append-nil (print y) ∙ ap print own)
      by (Ok (y, l ∷ rest)) is h = absurd (cc)

  all_read : (x : X) → Good x → A.read (print x) ≡ Ok (x, [])
  all_read x good = ap A.read (sym (append-nil (print x))) ∙ A.again x [] good

  -- what a good value prints is read as that value
  pub whole-again : (x : X) → Good x → whole_of (A.read (print x)) ≡ Ok x
  whole-again x good = ap (λ (r : Reading L X). whole_of r) (all_read x good)

  -- so no two print the same
  pub one-text : (x y : X) → Good x → Good y → print x ≡ print y → x ≡ y
  one-text x y good fine same =
      let both : Ok x ≡ Ok y = sym (whole-again x good) ∙ ap (λ (ls : List L). whole_of (A.read ls)) same ∙ whole-again y fine in cc

  -- some good value begins with these lines
  abbrev pub Begun : List L → Type 0
  Begun front = (x : X) × Good x × (more : List L) × (print x ≡ front ++ more)

  -- where reading stops, the lines before begin a good value, and with the next line they do not; where there is none, they are not all of one
  pub record IsFirstStop (ls left : List L) : Type 0 where
    pub front : List L
    pub split : ls ≡ front ++ left
    pub before : Begun front
    pub here : (l : L) (later : List L) → left ≡ l ∷ later → ¬ Begun (front ++ l ∷ [])
    pub short : left ≡ [] → (x : X) → Good x → print x ≢ front

  pub whole-stops : (ls left : List L) → whole_of (A.read ls) ≡ Err left → IsFirstStop ls left
  whole-stops ls left e = by (A.read ls) refl e
    where
      by : (r : Reading L X) → A.read ls ≡ r → whole_of r ≡ Err left → IsFirstStop ls left
      by (Ok (y, [])) is h = absurd (cc)
      by (Ok (y, l ∷ rest)) is h =
          let (good, same) = A.found ls y (l ∷ rest) is in
          let over : l ∷ rest ≡ left = cc in
          record {
            front = print y;
            split = same ∙ ap (λ (ks : List L). print y ++ ks) over;
            before = (y, good, [], sym (append-nil (print y)));
            here = λ k later left_is (x, fine, more, begins).
                let longer : print x ≡ print y ++ k ∷ more = begins ∙ append_assoc (print y) (k ∷ []) more in
                let twice : Ok (x, []) ≡ Ok (y, k ∷ more) = sym (all_read x fine) ∙ ap A.read longer ∙ A.again y (k ∷ more) good in
                let none : [] ≡ k ∷ more = ap (λ (r : Reading L X). behind r) twice in absurd (cc);
            short = λ none. absurd (cc (over ∙ none));
          }
      by (Err stopped) is h =
          let same : stopped ≡ left = cc in
          let stop = A.stops ls left (is ∙ ap (λ (ks : List L). Err ks) same) in
          record {
            front = stop.front;
            split = stop.split;
            before = (stop.begun, stop.good, stop.next ∷ stop.more, stop.begins);
            here = λ k later left_is (x, fine, more, begins).
                let longer : print x ≡ stop.front ++ k ∷ more = begins ∙ append_assoc stop.front (k ∷ []) more in
                let stuck : Stuck A.read stop.front (k ∷ later) = subst (λ (ks : List L). Stuck A.read stop.front ks) left_is stop.stuck in
                let twice : Ok (x, []) ≡ Err (k ∷ more) = sym (all_read x fine) ∙ ap A.read longer ∙ stuck more in absurd (cc);
            short = λ none x fine whole.
                let here : ls ≡ print x = stop.split ∙ ap (λ (ks : List L). stop.front ++ ks) none ∙ append-nil stop.front ∙ sym whole in
                let twice : Err stopped ≡ Ok (x, []) = sym is ∙ ap A.read here ∙ all_read x fine in absurd (cc);
          }

-- ---- one line

-- good values can be read from the lines that say them, and others say none
pub record LineForm {L X : Type 0} (Good : X → Type 0) (print : X → L) : Type 0 where
  pub read : L → Option X
  pub sample : X
  pub sound_sample : Good sample
  pub again : (x : X) → Good x → read (print x) ≡ Some x
  pub found : (l : L) (x : X) → read l ≡ Some x → Good x × (l ≡ print x)

-- a line of this form
unfoldable pub line : {L X : Type 0} (Good : X → Type 0) (print : X → L) → LineForm Good print → Production Good (λ x. print x ∷ [])
line {L} {X} Good print F = record {
  read = read_line F.read;
  sample = F.sample;
  sound_sample = F.sound_sample;
  again = λ x rest good. ap (λ (o : Option X). line_read (print x) rest o) (F.again x good);
  found = found;
  stops = stops;
}
  where
    found : (ls : List L) (x : X) (rest : List L) → read_line F.read ls ≡ Ok (x, rest) → Good x × (ls ≡ print x ∷ [] ++ rest)
    found [] x rest e = absurd (cc)
    found (l ∷ ls) x rest e = by (F.read l) refl e
      where
        by : (o : Option X) → F.read l ≡ o → line_read l ls o ≡ Ok (x, rest) → Good x × (l ∷ ls ≡ print x ∷ rest)
        by None is h = absurd (cc)
        by (Some y) is h =
            let value : y ≡ x = ap (λ (r : Reading L X). value_or y r) h in
            let same : ls ≡ rest = ap (λ (r : Reading L X). behind r) h in
            let (good, written) = F.found l y is in
            (subst Good value good, ap (λ (k : L). k ∷ ls) written ∙ ap (λ (z : X). print z ∷ ls) value ∙ ap (λ (ks : List L). print x ∷ ks) same)

    stops : (ls left : List L) → read_line F.read ls ≡ Err left → Stops Good (λ x. print x ∷ []) (read_line F.read) ls left
    stops [] left e =
        record {
          front = [];
          split = ap (λ (r : Reading L X). behind r) e;
          begun = F.sample;
          good = F.sound_sample;
          next = print F.sample;
          more = [];
          begins =
              refl;
          stuck = subst (λ (ks : List L). Stuck (read_line F.read) [] ks) (ap (λ (r : Reading L X). behind r) e) tt;
        }
    stops (l ∷ ls) left e = by (F.read l) refl e
      where
        by : (o : Option X) → F.read l ≡ o → line_read l ls o ≡ Err left → Stops Good (λ x. print x ∷ []) (read_line F.read) (l ∷ ls) left
        by (Some y) is h = absurd (cc)
        by None is h =
            let same : l ∷ ls ≡ left = ap (λ (r : Reading L X). behind r) h in
            record {
              front = [];
              split = same;
              begun = F.sample;
              good = F.sound_sample;
              next = print F.sample;
              more = [];
              begins = refl;
              stuck = subst (λ (ks : List L). Stuck (read_line F.read) [] ks) same (λ other. ap (λ (o : Option X). line_read l other o) is);
            }

-- ---- one after another

-- a value, and then one that depends on it
module _ {L X Y : Type 0} (Good : X → Type 0) (print : X → List L) (Next : X → Y → Type 0) (print_next : X → Y → List L) (A : Production Good print)
    (B : (x : X) → Production (Next x) (print_next x)) where
  abbrev Both : X × Y → Type 0
  Both pair = Good pair.0 × Next pair.0 pair.1

  abbrev print_both : X × Y → List L
  print_both pair = print pair.0 ++ print_next pair.0 pair.1

  abbrev read_both : List L → Reading L (X × Y)
  read_both ls = then_read (A.read ls) (λ x rest. paired x ((B x).read rest))

  stuck-left : (front left : List L) → Stuck A.read front left → Stuck read_both front left
  stuck-left front [] stuck = tt
  stuck-left front (l ∷ later) stuck = λ other. ap (λ (r : Reading L X). then_read r (λ x rest. paired x ((B x).read rest))) (stuck other)

  stuck-right : (x : X) (front left : List L) → Good x → Stuck (B x).read front left → Stuck read_both (print x ++ front) left
  stuck-right x front [] good stuck = tt
  stuck-right x front (l ∷ later) good stuck = λ other.
      ap read_both (append_assoc (print x) front (l ∷ other)) ∙ ap (λ (r : Reading L X). then_read r (λ z rest. paired z ((B z).read rest)))
      (A.again x (front ++ l ∷ other) good)
      ∙ ap (λ (r : Reading L Y). paired x r) (stuck other)

  pub both-found : (ls : List L) (pair : X × Y) (rest : List L) → read_both ls ≡ Ok (pair, rest) → Both pair × (ls ≡ print_both pair ++ rest)
  both-found ls pair rest e = first (A.read ls) refl e
    where
      second : (x : X) (middle : List L) → A.read ls ≡ Ok (x, middle) → (r : Reading L Y) → (B x).read middle ≡ r → paired x r ≡ Ok (pair, rest) → Both pair
          × (ls ≡ print_both pair ++ rest)
      second x middle was (Err left) is h = absurd (cc)
      second x middle was (Ok (y, last)) is h =
          let own : (x, y) ≡ pair = ap (λ (r : Reading L (X × Y)). value_or (x, y) r) h in
          let end : last ≡ rest = ap (λ (r : Reading L (X × Y)). behind r) h in
          let (good, same) = A.found ls x middle was in
          let (fine, later) = (B x).found middle y last is in (
            subst (λ (p : X × Y). Both p) own (good, fine),
            same ∙ ap (λ (ks : List L). print x ++ ks) later ∙ sym (append_assoc (print x) (print_next x y) last) ∙ ap (λ (p : X × Y). print_both p ++ last) own
                ∙ ap (λ (ks : List L). print_both pair ++ ks) end,
          )

      first : (r : Reading L X) → A.read ls ≡ r → then_read r (λ x middle. paired x ((B x).read middle)) ≡ Ok (pair, rest) → Both pair
          × (ls ≡ print_both pair ++ rest)
      first (Err left) is h = absurd (cc)
      first (Ok (x, middle)) is h = second x middle is ((B x).read middle) refl h

  pub both-stops : (ls left : List L) → read_both ls ≡ Err left → Stops Both print_both read_both ls left
  both-stops ls left e = first (A.read ls) refl e
    where
      second : (x : X) (middle : List L) → A.read ls ≡ Ok (x, middle) → (r : Reading L Y) → (B x).read middle ≡ r → paired x r ≡ Err left
          → Stops Both print_both read_both ls left
      second x middle was (Ok (y, last)) is h = absurd (cc)
      second x middle was (Err stopped) is h =
          let same : stopped ≡ left = ap (λ (r : Reading L (X × Y)). behind r) h in
          let (good, written) = A.found ls x middle was in
          let stop = (B x).stops middle left (is ∙ ap (λ (ks : List L). Err ks) same) in
          record {
            front = print x ++ stop.front;
            split = written ∙ ap (λ (ks : List L). print x ++ ks) stop.split ∙ sym (append_assoc (print x) stop.front left);
            begun = (x, stop.begun);
            good = (good, stop.good);
            next = stop.next;
            more = stop.more;
            begins = ap (λ (ks : List L). print x ++ ks) stop.begins ∙ sym (append_assoc (print x) stop.front (stop.next ∷ stop.more));
            stuck = stuck-right x stop.front left good stop.stuck;
          }

      first : (r : Reading L X) → A.read ls ≡ r → then_read r (λ x middle. paired x ((B x).read middle)) ≡ Err left → Stops Both print_both read_both ls left
      first (Ok (x, middle)) is h = second x middle is ((B x).read middle) refl h
      first (Err stopped) is h =
          let same : stopped ≡ left = ap (λ (r : Reading L (X × Y)). behind r) h in
          let stop = A.stops ls left (is ∙ ap (λ (ks : List L). Err ks) same) in
          let following = print_next stop.begun (B stop.begun).sample in
          record {
            front = stop.front;
            split = stop.split;
            begun = (stop.begun, (B stop.begun).sample);
            good = (stop.good, (B stop.begun).sound_sample);
            next = stop.next;
            more = stop.more ++ following;
            begins = ap (λ (ks : List L). ks ++ following) stop.begins ∙ append_assoc stop.front (stop.next ∷ stop.more) following;
            stuck = stuck-left stop.front left stop.stuck;
          }

  unfoldable pub follow : Production Both print_both
  follow = record {
    read = read_both;
    sample = (A.sample, (B A.sample).sample);
    sound_sample = (A.sound_sample, (B A.sample).sound_sample);
    again = λ pair rest good.
        ap read_both (append_assoc (print pair.0) (print_next pair.0 pair.1) rest)
        ∙ ap (λ (r : Reading L X). then_read r (λ z last. paired z ((B z).read last))) (A.again pair.0 (print_next pair.0 pair.1 ++ rest) good.0)
        ∙ ap (λ (r : Reading L Y). paired pair.0 r) ((B pair.0).again pair.1 rest good.1);
    found = both-found;
    stops = both-stops;
  }

-- ---- values turned into others

-- two ways to see the values, and what they print
pub record View {L X Y : Type 0} (Good : X → Type 0) (print : X → List L) (Fine : Y → Type 0) (print_as : Y → List L) : Type 0 where
  pub to : X → Y
  pub from : Y → X
  pub there : (x : X) → Good x → Fine (to x) × (from (to x) ≡ x)
  pub back : (y : Y) → Fine y → Good (from y) × (to (from y) ≡ y) × (print_as y ≡ print (from y))

module _ {L X Y : Type 0} (Good : X → Type 0) (print : X → List L) (Fine : Y → Type 0) (print_as : Y → List L) (V : View Good print Fine print_as)
    (A : Production Good print) where
  abbrev read_seen : List L → Reading L Y
  read_seen ls = seen V.to (A.read ls)

  stuck-seen : (front left : List L) → Stuck A.read front left → Stuck read_seen front left
  stuck-seen front [] stuck = tt
  stuck-seen front (l ∷ later) stuck = λ other. ap (λ (r : Reading L X). seen V.to r) (stuck other)

  -- a good value prints as its view does
  printed : (x : X) → Good x → print_as (V.to x) ≡ print x
  printed x good =
      let (fine, same) = V.there x good in
      let (back, again, text) = V.back (V.to x) fine in text ∙ ap print same

  pub seen-found : (ls : List L) (y : Y) (rest : List L) → read_seen ls ≡ Ok (y, rest) → Fine y × (ls ≡ print_as y ++ rest)
  seen-found ls y rest e = by (A.read ls) refl e
    where
      by : (r : Reading L X) → A.read ls ≡ r → seen V.to r ≡ Ok (y, rest) → Fine y × (ls ≡ print_as y ++ rest)
      by (Err left) is h = absurd (cc)
      by (Ok (x, last)) is h =
          let own : V.to x ≡ y = ap (λ (r : Reading L Y). value_or y r) h in
          let end : last ≡ rest = ap (λ (r : Reading L Y). behind r) h in
          let (good, same) = A.found ls x last is in
          let (fine, there) = V.there x good in (
            subst (λ (z : Y). Fine z) own fine,
            same ∙ ap (λ (ks : List L). ks ++ last) (sym (printed x good) ∙ ap print_as own) ∙ ap (λ (ks : List L). print_as y ++ ks) end,
          )

  pub seen-stops : (ls left : List L) → read_seen ls ≡ Err left → Stops Fine print_as read_seen ls left
  seen-stops ls left e = by (A.read ls) refl e
    where
      by : (r : Reading L X) → A.read ls ≡ r → seen V.to r ≡ Err left → Stops Fine print_as read_seen ls left
      by (Ok (x, last)) is h = absurd (cc)
      by (Err stopped) is h =
          let same : stopped ≡ left = ap (λ (r : Reading L Y). behind r) h in
          let stop = A.stops ls left (is ∙ ap (λ (ks : List L). Err ks) same) in
          let (fine, there) = V.there stop.begun stop.good in
          record {
            front = stop.front;
            split = stop.split;
            begun = V.to stop.begun;
            good = fine;
            next = stop.next;
            more = stop.more;
            begins = printed stop.begun stop.good ∙ stop.begins;
            stuck = stuck-seen stop.front left stop.stuck;
          }

  unfoldable pub as_seen : Production Fine print_as
  as_seen = record {
    read = read_seen;
    sample = V.to A.sample;
    sound_sample = (V.there A.sample A.sound_sample).0;
    again = λ y rest fine.
        let (good, same, text) = V.back y fine in
        ap (λ (ks : List L). read_seen (ks ++ rest)) text ∙ ap (λ (r : Reading L X). seen V.to r) (A.again (V.from y) rest good)
        ∙ ap (λ (z : Y). Ok (z, rest)) same;
    found = seen-found;
    stops = seen-stops;
  }

-- ---- a number of values, one after another

-- `n` values, each of them good
abbrev pub AreMany : {X : Type 0} → (X → Type 0) → ℕ → List X → Type 0
AreMany Good zero [] = Unit {0}
AreMany Good (suc n) (x ∷ xs) = Good x × AreMany Good n xs
AreMany Good zero (x ∷ xs) = ⊥
AreMany Good (suc n) [] = ⊥

-- the first, and those behind it
abbrev parted : {X : Type 0} → X → List X → X × List X
parted d [] = (d, [])
parted d (x ∷ xs) = (x, xs)

module _ {L X : Type 0} (Good : X → Type 0) (print : X → List L) (A : Production Good print) where
  abbrev read_none : List L → Reading L (List X)
  read_none ls = Ok ([], ls)

  unfoldable pub none : Production (AreMany Good 0) (flat_map print)
  none = record {
    read = read_none;
    sample = [];
    sound_sample = tt;
    again = again;
    found = found;
    stops = λ ls left e. absurd (cc);
  }
    where
      again : (xs : List X) (rest : List L) → AreMany Good 0 xs → read_none (flat_map print xs ++ rest) ≡ Ok (xs, rest)
      again [] rest are = refl
      again (x ∷ xs) rest are = absurd are

      found : (ls : List L) (xs : List X) (rest : List L) → read_none ls ≡ Ok (xs, rest) → AreMany Good 0 xs × (ls ≡ flat_map print xs ++ rest)
      found ls xs rest e =
          let own : [] ≡ xs = ap (λ (r : Reading L (List X)). value_or xs r) e in
          let end : ls ≡ rest = ap (λ (r : Reading L (List X)). behind r) e in
          (subst (λ (ys : List X). AreMany Good 0 ys) own tt, end ∙ ap (λ (ys : List X). flat_map print ys ++ rest) own)

  unfoldable pub one_more : (n : ℕ) → View (λ (pair : X × List X). Good pair.0 × AreMany Good n pair.1) (λ pair. print pair.0 ++ flat_map print pair.1)
      (AreMany Good (suc n)) (flat_map print)
  one_more n = record { to = λ pair. pair.0 ∷ pair.1; from = parted A.sample; there = λ pair good. (good, refl); back = back }
    where
      back : (xs : List X) → AreMany Good (suc n) xs → (Good (parted A.sample xs).0 × AreMany Good n (parted A.sample xs).1)
          × ((parted A.sample xs).0 ∷ (parted A.sample xs).1 ≡ xs) × (flat_map print xs ≡ print (parted A.sample xs).0 ++ flat_map print (parted A.sample xs).1)
      back [] are = absurd are
      back (x ∷ xs) are = (are, refl, refl)

  -- `n` of them
  unfoldable pub many : (n : ℕ) → Production (AreMany Good n) (flat_map print)
  many zero = none
  many (suc n) = as_seen _ _ _ _ (one_more n) (follow Good print (λ _. AreMany Good n) (λ _. flat_map print) A (λ _. many n))

  -- they are read one by one
  shifted : (x : X) (r : Reading L (List X)) → seen (λ (pair : X × List X). pair.0 ∷ pair.1) (paired x r) ≡ seen (λ xs. x ∷ xs) r
  shifted x (Err left) = refl
  shifted x (Ok (xs, rest)) = refl

  pub many-reads : (n : ℕ) (ls : List L) → (many n).read ls ≡ read_many A.read n ls
  unfolding many none one_more as_seen follow
  many-reads zero ls = refl
  many-reads (suc n) ls = by (A.read ls) (many-reads n)
    where
      by : (r : Reading L X) → ((rest : List L) → (many n).read rest ≡ read_many A.read n rest)
          → seen (λ (pair : X × List X). pair.0 ∷ pair.1) (then_read r (λ x rest. paired x ((many n).read rest)))
          ≡ then_read r (λ x rest. seen (λ xs. x ∷ xs) (read_many A.read n rest))
      by (Err left) later = refl
      by (Ok (x, rest)) later = ap (λ (q : Reading L (List X)). seen (λ (pair : X × List X). pair.0 ∷ pair.1) (paired x q)) (later rest)
          ∙ shifted x (read_many A.read n rest)

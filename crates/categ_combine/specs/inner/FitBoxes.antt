use Rattle.std.specs.Prelude.{List, All}
use Rattle.edit_line.specs.Boxes.{IsBox}
use Rattle.categ_combine.specs.declared.box_from.BoxFrom.{BoxFrom}

-- each set of each box has a code, and none but its field's
abbrev pub AreBoxes : List BoxFrom → Type 0
AreBoxes boxes = All (λ (b : BoxFrom). IsBox b.code_box) boxes

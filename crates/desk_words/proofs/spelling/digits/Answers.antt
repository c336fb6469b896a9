-- `digits`: two digits for each byte are within the text.
use Rattle.std.proofs.Common.{arith, length-take-le, sym}
use Rattle.desk_words.proofs.spelling.digits.Goals as goal

pub slice_bounds-text-end-then-n-le32 : goal.slice_bounds-text-end-then-n-le32
slice_bounds-text-end-then-n-le32 c = sym (length-take-le _ _ (omega arith))

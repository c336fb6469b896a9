-- The sheet's promise is kept.
use mathlib.Core.Path.{sym, ◌∙◌}
use Rattle.work_text.proofs.Decimal.{zero_alone, no_zero_first, each_digit}
use Rattle.record_fields.specs.Fields.{most_turns}
use Rattle.promises.specs.HeldStays.{Keeps}
use Rattle.promises.specs.PinnedStays.{PinsKept}
use Rattle.promises.specs.Sheet as Sheet
use Rattle.promises.proofs.HeldStays.{keeps_same, held_stays}
use Rattle.promises.proofs.PinnedStays.{pins-same, pinned_stays}
use Rattle.promises.proofs.SheetLines.{in_order, one_sheet, one_outcome, kept, run-left, run-leaves, told, an_outcome, line-leaves}
use Rattle.promises.proofs.SheetLength.{sheet-most}
use Rattle.promises.proofs.SheetCut.{cut-sheet}
use Rattle.promises.proofs.SheetNumbers.{reads_back, as_in_newick}

pub sheet : Sheet.SheetPromise
sheet = record {
  in_order = in_order;
  one_sheet = one_sheet;
  most = λ s text p. rw p.says (sheet-most s p.third p.third_told);
  cut = λ s text long p. cut-sheet s long text p;
  one_outcome = one_outcome;
  kept = λ s k out a x s' p h. kept k p h;
  ran = λ s out a x s' answer s'' p q. run-left p ∙ sym (run-leaves s q);
  held_stays = λ s k out a x s' p. line-leaves s (Keeps s) (keeps_same s) (held_stays.run s most_turns (told s) _ (an_outcome s)) p;
  pinned_stays = λ s k out a x s' p. line-leaves s (PinsKept s) (pins-same s) (pinned_stays.run s most_turns (told s) _ (an_outcome s)) p;
  numbers = record {
    reads_back = reads_back;
    zero_alone = zero_alone;
    no_zero_first = no_zero_first;
    each_digit = each_digit;
    as_in_newick = as_in_newick;
  };
}

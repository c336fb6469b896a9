-- Each of the wrong sheets differs from the right one at a byte.
use Prim.Native.Nat.{ℕ}
use mathlib.Core.Path.{refl, sym, ap}
use mathlib.Core.Logic.{◌≢◌}
use mathlib.Core.List.{List, []}
use native.Mathlib.Omega.{arith}
use lib.ListN.{get_or}
use Rattle.tanglegram.specs.Lists.{place, range}
use Rattle.tanglegram.specs.Tree.{leaves, deep, object, used}
use Rattle.tanglegram.specs.Order.{order}
use Rattle.tanglegram.specs.Entanglement.{sum, displacement}
use Rattle.tanglegram.specs.Examples.{case2}
use Rattle.work_tree_rule.specs.Rule.{among, first, bad_row}
use Rattle.work_text.specs.Lines.{ascii}
use Rattle.record_fields.specs.Fields.{numbers, split, parts_of, packed}
use Rattle.record_fields.specs.Refusals.{all, is_mark, is_hold, no_size, breaks_rule, one_to_one, is_layout, contents_refusal, heading_refusal}
use Rattle.record_fields.specs.Refusals.{refusal}
use Rattle.calls_show.specs.InThousandths.{Ratio}
use Rattle.calls_sheet.specs.Sheet.{ThirdNumber, Sheet}
use Rattle.promises.specs.Cases.{held_record_of, record_of}
use Rattle.promises.specs.SheetTried as SheetTried
use Rattle.promises.proofs.Examples.{examples, tells}
use Rattle.promises.proofs.SheetLines.{one_sheet}

-- the right sheets, by the examples
example-third : ThirdNumber (record_of case2) 948
example-third = record { answer = Ratio 948; told = examples.in_thousandths.0; or_zero = refl }

held_third : ThirdNumber (held_record_of 76 case2) 948
unfolding order leaves deep object place range sum displacement used among first bad_row numbers split parts_of packed all is_mark is_hold
    no_size breaks_rule one_to_one is_layout contents_refusal heading_refusal refusal
held_third = record { answer = Ratio 948; told = tells (held_record_of 76 case2) (Ratio 948) refl; or_zero = refl }

example : Sheet (record_of case2) (ascii "TGP 1 N 4\nL 4 3 1 2\nR 1 2 3 4\nX 5\nE 18 20 948\nT 2 S 0\nL 1 2 3 4\nR 1 2 3 4\n")
example = record { third = 948; third_told = example-third; says = sym (ap (λ sheets. get_or sheets 0 []) examples.sheets) }

held : Sheet (held_record_of 76 case2) (ascii "TGP 1 L 4\nL 4 3 1 2\nR 1 2 3 4\nX 5\nE 18 20 948\nREFUSED 11\n")
held = record { third = 948; third_told = held_third; says = sym (ap (λ sheets. get_or sheets 1 []) examples.sheets) }

-- two texts that differ at a byte are not both the sheet
differ : {s right wrong : List ℕ} (k : ℕ) → Sheet s right → Sheet s wrong → get_or right k 0 ≢ get_or wrong k 0 → ⊥
differ {s} {right} {wrong} k p q h = h (ap (λ text. get_or text k 0) (one_sheet s right wrong p q))

pub tried : SheetTried.SheetTried
tried = record {
  lines-exchanged = λ p. differ 10 example p (λ e. omega arith);
  orders-exchanged = λ p. differ 12 example p (λ e. omega arith);
  after-for-before = λ p. differ 12 example p (λ e. omega arith);
  before-for-after = λ p. differ 56 example p (λ e. omega arith);
  digit-lost = λ p. differ 44 example p (λ e. omega arith);
  zero-in-front = λ p. differ 32 example p (λ e. omega arith);
  space-at-the-end = λ p. differ 19 example p (λ e. omega arith);
  line-feed-lost = λ p. differ 73 example p (λ e. omega arith);
  unsettled-for-settled = λ p. differ 50 example p (λ e. omega arith);
  run_not_told = λ p. differ 46 example p (λ e. omega arith);
  nothing = λ p. differ 0 example p (λ e. omega arith);
  held-run = λ p. differ 46 held p (λ e. omega arith);
  held_refused = λ p. differ 0 held p (λ e. omega arith);
}

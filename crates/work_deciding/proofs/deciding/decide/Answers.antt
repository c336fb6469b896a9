-- `decide` meets its contract: a row is turned over, its byte flipped and its entries exchanged, or kept.
use Rattle.std.proofs.Common.{Bool, List, ℕ, ap, arith, get_or, length, pred, refl, sub-one, swap, sym, ◌*◌, ◌+◌, ◌-◌, ◌∙◌, ◌≡◌, ◌≤◌}
use Rattle.std.proofs.lemmas.List.Edits.{swap_is}
use Rattle.tanglegram.specs.Order.{byte}
use Rattle.work_trees.proofs.RowArray.{upper-place, lower-place}
use Rattle.work_trees.specs.Exchange.{exchanged_at}
use Rattle.work_deciding.specs.Row.{turns_over}
use Rattle.work_deciding.proofs.deciding.decide.Goals as goal

-- the test, asked of the row's byte in its place
told : (lay : List ℕ) (row count other : ℕ) {r b : Bool} → r ≡ turns_over (get_or lay (row - 1) 0) count other → r ≡ b →
    turns_over (byte lay row) count other ≡ b
told lay row count other e h = ap (λ k. turns_over (get_or lay k 0) count other) (sym (sub-one row)) ∙ sym e ∙ h

-- the row's two entries change places
swapped : (W : List ℕ) (row : ℕ) → 1 ≤ row → row ≤ 511 → length W ≡ 1023 → swap W (2 * row - 2) (2 * row - 1) ≡ exchanged_at W row
swapped W row from most long =
    let i = 2 * pred row in
    rw (upper-place row from, lower-place row from) (sym (swap_is W i (i + 1) 0 (omega arith) (omega arith)))

pub returns : goal.returns
returns c =
    let a = c.args in
    let g = told a.lay.now a.row a.count a.other c.turns_over.ensures c.if-not-turns_over.false in
    record {
      answers = rw g refl;
      rows = rw g (c.swap.ensures.after ∙ swapped a.rows.now a.row c.requires.0 c.requires.2 (omega arith));
      bytes = rw (g, c.flipped.ensures, ← sub-one) refl;
    }

-- `named`: by the place among the names.
use Rattle.std.proofs.Common.{ℕ, List, Option, None, Some, arith, get_or, length, sym, ◌<◌, ◌∙◌, ◌≡◌}
use Rattle.std.proofs.lemmas.Option.{slice_get-get_or, slice_get_past}
use Rattle.desk_words.specs.Words.{pieces, placed}
use Rattle.desk_words.proofs.Placing.{placed_at, not_placed}
use Rattle.desk.specs.declared.calls.Call.TheVariants.{Check}
use Rattle.desk.specs.Calls.{names, calls, call_named}
use Rattle.desk.proofs.calls.named.Goals as goal

within : (name : List ℕ) (k : ℕ) → Some k ≡ placed name names → k < 20
unfolding names
within name k e = let h = placed_at name names k e in omega arith

at_place : (name : List ℕ) (k : ℕ) → Some k ≡ placed name names → Some (get_or calls k Check) ≡ call_named name
unfolding names calls call_named
at_place name k e =
    let h = placed_at name names k e in
    rw h.1 (sym (slice_get-get_or calls k Check (within name k e)))

no_place : (name : List ℕ) → None ≡ placed name names → None ≡ call_named name
unfolding names calls call_named
no_place name e = sym (slice_get_past calls _ (not_placed name names e))

pub bounds-k-k : goal.bounds-k-k
unfolding names pieces
bounds-k-k c = within c.args.name.now c.in_ok-k.k c.in_ok-k.ensures

pub returns : goal.returns
unfolding names pieces calls
returns c = at_place c.args.name.now c.in_ok-k.k c.in_ok-k.ensures

pub returns-in_err-k : goal.returns-in_err-k
unfolding names pieces
returns-in_err-k c = c.from_residual.ensures ∙ no_place c.args.name.now c.in_err-k.ensures

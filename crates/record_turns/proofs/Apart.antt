-- A record taken apart: the table in its arrays is its own, so what freeing and a run make of the arrays is what they make of the record.
use Prim.Native.Nat.{ℕ}
use mathlib.Core.Path.{◌≡◌, sym, ap, ap₂, ◌∙◌}
use mathlib.Core.List.{List}
use lib.ListN.{take}
use Rattle.tanglegram.specs.Lists.{bit}
use Rattle.tanglegram.specs.declared.side.Side.{Side}
use Rattle.tanglegram.specs.declared.side.Side.TheVariants.{Left as left, Right as right}
use Rattle.tanglegram.specs.Run.{run}
use Rattle.tanglegram.specs.Table.{Layouts, linked, crossings, free}
use Rattle.record_fields.specs.Fields.{parts, parts_of}
use Rattle.record_fields.specs.Meaning.{table_of, layouts_of, relaid}
use Rattle.work_trees.specs.Exchange.{given_tree}
use Rattle.work_trees.specs.Rows.{size}
use Rattle.record_arrays.specs.Sides.{RecordOver}
use Rattle.record_arrays.specs.Apart.{TreesTaken}
use Rattle.work_linked_trees.specs.Memory.{here, layouts_from, SideFreed}
use Rattle.work_linked_trees.proofs.SideFreed.{freed_then}
use Rattle.work_turns.specs.Taken.{RunTaken}
use Rattle.work_turns.proofs.TurnsTaken.{run_then}
use Rattle.record_turns.specs.Worked.{LayoutsFreed, RecordFreed, ran_from, LayoutsRan, RecordRan}

module _ {s : List ℕ} {n : ℕ} (g : RecordOver s n) where
  -- the table in the arrays
  table_here : (links : List ℕ) → take n links ≡ (parts s).links → here ((table_of s).tree left) ((table_of s).tree right) n links ≡ table_of s
  unfolding parts_of
  table_here links e = ap₂ (λ m ps. linked m ((table_of s).tree left) ((table_of s).tree right) ps) (sym g.sized.says) e

  module _ {links L l R r : List ℕ} (t : TreesTaken s n links L l R r) {L' l' R' r' : List ℕ} where
    pub layouts-freed : {side : Side} {before after : ℕ} →
        SideFreed (given_tree L l) (given_tree R r) (size L) links side (layouts_from l r) before after L' l' R' r' →
        LayoutsFreed s side (layouts_from l r) before after (layouts_from l' r')
    layouts-freed {side} f =
        let h = freed_then t.memory f in
        let its = table_here links t.its_links in
        record {
          counted = h.counted ∙ ap (λ T. crossings T (layouts_from l r)) its;
          recounted = h.recounted ∙ ap (λ T. crossings T (free T side (layouts_from l r))) its;
          afterwards = h.afterwards ∙ ap (λ T. free T side (layouts_from l r)) its;
        }

    pub layouts-ran : {allowance first last turns settled : ℕ} →
        RunTaken (given_tree L l) (given_tree R r) (size L) links (layouts_from l r) allowance first last turns settled L' l' R' r' →
        LayoutsRan s (layouts_from l r) allowance first last turns settled (layouts_from l' r')
    layouts-ran {allowance} f =
        let h = run_then t.memory f in
        let its = table_here links t.its_links in
        let end = ap (λ T. run (crossings T) (free T) allowance (layouts_from l r)) its in
        record {
          first_count = h.first_count ∙ ap (λ T. crossings T (layouts_from l r)) its;
          last_count = h.ran.last_count ∙ ap₂ (λ T e. crossings T e.last) its end;
          taken = h.ran.taken ∙ ap (λ e. e.turns) end;
          ended = h.ran.ended ∙ ap (λ e. bit e.settled) end;
          afterwards = h.ran.afterwards ∙ ap (λ e. e.last) end;
        }

-- from its own layouts, and put back
module _ {s s' : List ℕ} {at at' : Layouts} (own : at ≡ layouts_of s) (back : s' ≡ relaid s at') where
  pub record_freed : {side : Side} {before after : ℕ} → LayoutsFreed s side at before after at' → RecordFreed s side before after s'
  record_freed {side} f = record {
    counted = f.counted ∙ ap (crossings (table_of s)) own;
    recounted = f.recounted ∙ ap (λ x. crossings (table_of s) (free (table_of s) side x)) own;
    afterwards = back ∙ ap (relaid s) (f.afterwards ∙ ap (free (table_of s) side) own);
  }

  pub record_ran : {allowance first last turns settled : ℕ} → LayoutsRan s at allowance first last turns settled at' →
      RecordRan s allowance first last turns settled s'
  record_ran {allowance} f =
      let end = ap (λ x. ran_from s x allowance) own in
      record {
        first_count = f.first_count ∙ ap (crossings (table_of s)) own;
        last_count = f.last_count ∙ ap (λ e. crossings (table_of s) e.last) end;
        taken = f.taken ∙ ap (λ e. e.turns) end;
        ended = f.ended ∙ ap (λ e. bit e.settled) end;
        afterwards = back ∙ ap (relaid s) (f.afterwards ∙ ap (λ e. e.last) end);
      }

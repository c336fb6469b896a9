-- Freeing, runs and hand lists change layout bytes only, and never a held side's.
use Prim.Native.Nat.{ℕ, zero, suc, pred}
use mathlib.Core.Path.{◌≡◌, refl, sym, ap, ap₂, ◌∙◌, subst}
use mathlib.Core.Bool.{true, false, true≢false}
use mathlib.Core.List.{List, [], ◌∷◌}
use native.Mathlib.Omega.{arith}
use lib.ListN.{length, take, length-set}
use lib.Seq.{take_at, length-take-le}
use Rattle.tanglegram.specs.Order.{order, byte, turn_row}
use Rattle.tanglegram.specs.declared.side.Side.{Side}
use Rattle.tanglegram.specs.declared.side.Side.TheVariants.{Left as left, Right as right}
use Rattle.tanglegram.specs.Run.{other, run, after}
use Rattle.tanglegram.specs.Table.{Table, Layouts, layout, put, crossings, free, Least}
use Rattle.tanglegram.proofs.Bytes.{flip-small}
use Rattle.tanglegram.proofs.Run.{stays_good}
use Rattle.tanglegram.specs.Table.{Fair, Fits}
use Rattle.tanglegram.proofs.Table.{free_fits, free-small, frees, table-run}
use Rattle.record_fields.specs.Fields.{hold_of, size_of, left_layout_at}
use Rattle.record_fields.specs.Refusals.{is_layout, refusal}
use Rattle.record_fields.specs.Meaning.{table_of, layouts_of, relaid}
use Rattle.record_fields.proofs.Acceptance.{accepted-sized, accepted-parts}
use Rattle.record_fields.proofs.Meaning.{accepted_fair, accepted_fits, fits_long, length-relaid, layouts-of-relaid, hold-relaid}
use Rattle.record_fields.proofs.Meaning.{size-relaid, parts-relaid, table-relaid, relaid-accepted}
use Rattle.record_fields.proofs.Tests.{layout-small, small-layout}
use Rattle.record_arrays.specs.Sides.{side_of, holds}
use Rattle.record_arrays.proofs.OneRow.{set-bytes}
use Rattle.calls_hands.specs.Refusals.{Hand, hands_refusal}
use Rattle.calls_turns.specs.Refusals.{free_refusal, run_refusal}
use Rattle.calls_turns.specs.Calls.{freed_layouts, ran_to}
use Rattle.calls_hands.specs.Calls.{handed}
use Rattle.calls_turns.proofs.Turns.{freeing_good, running_good}
use Rattle.calls_hands.proofs.HandLists.{handing_accepted}
use Rattle.calls_hands.proofs.Handed.{held_kept}
use Rattle.promises.specs.HeldStays as HeldStays
use Rattle.promises.specs.HeldStays.{SameTrees, Keeps}
use Rattle.promises.proofs.Afterwards.{afterwards}

pub trees_same : (s : List ℕ) → SameTrees s s
trees_same s = record { same_size = refl; same_trees = λ side. refl; same_links = refl; accepted_again = λ a. a }

pub keeps_same : (s : List ℕ) → Keeps s s
keeps_same s = record {
  same_length = refl;
  same_front = refl;
  same_hold = refl;
  same_trees = trees_same s;
  held_stays = λ side h. refl;
  held_order = λ side h. refl;
}

-- layouts of bytes from 0 to 3
abbrev Bytes : Layouts → Type 0
Bytes new = (side : Side) → is_layout (layout new side) ≡ true

its_bytes : (s : List ℕ) → refusal s ≡ 0 → Bytes (layouts_of s)
its_bytes s a left = (accepted-parts s a).left_bytes
its_bytes s a right = (accepted-parts s a).right_bytes

-- new layouts that fit, and are the old ones on a held side
keeps_relaid : (s : List ℕ) (a : refusal s ≡ 0) (new : Layouts) → Fits (accepted_fair s a) new → Bytes new →
    ((side : Side) → holds (hold_of s) side ≡ true → layout new side ≡ layout (layouts_of s) side) → Keeps s (relaid s new)
unfolding relaid
keeps_relaid s a new f b h =
    let z = accepted-sized s a in
    let l = fits_long s a new f left in
    let r = fits_long s a new f right in
    let table = table-relaid s z new l r in
    let laid = layouts-of-relaid s z new l r in
    record {
      same_length = length-relaid s z new l r;
      same_hold = hold-relaid s z new l r;
      same_trees = record {
        same_size = size-relaid s z new l r;
        same_trees = λ side. ap (λ T. T.tree side) table;
        same_links = ap (λ P. P.links) (parts-relaid s z new l r);
        accepted_again = λ _. relaid-accepted s z new l r a (b left) (b right);
      };
      held_order = λ side e.
          ap₂ order (ap (λ L. layout L side) laid ∙ h side e) (ap (λ T. T.tree side) table);
      same_front =
          take_at (take (left_layout_at (size_of s)) s) _ (left_layout_at (size_of s)) (length-take-le (left_layout_at (size_of s)) s (omega arith));
      held_stays = λ side e. ap (λ L. layout L side) laid ∙ h side e;
    }

-- freeing keeps them so, turn after turn
freed-bytes : (T : Table) (F : Fair T) (side : Side) (L : Layouts) → Fits F L → Bytes L → Bytes (free T side L)
freed-bytes T F side L fits b x =
    small-layout (layout (free T side L) x) (free-small T F side L fits (λ y. layout-small (layout L y) (b y)) x)

after-bytes : (T : Table) (F : Fair T) (j : ℕ) (side : Side) (L : Layouts) → Fits F L → Bytes L → Bytes (after (free T) j side L)
unfolding after
after-bytes T F zero side L fits b = b
after-bytes T F (suc j) side L fits b =
    after-bytes T F j (other side) (free T side L) (free_fits T F side L fits) (freed-bytes T F side L fits b)

free_keeps : (s : List ℕ) (side : ℕ) → free_refusal s side ≡ 0 → Keeps s (relaid s (freed_layouts s side))
free_keeps s side e =
    let g = freeing_good s side e in
    let a = g.1 in
    let fits = accepted_fits s a in
    let F = accepted_fair s a in
    keeps_relaid s a (freed_layouts s side) (free_fits (table_of s) F (side_of side) (layouts_of s) fits)
    (freed-bytes (table_of s) F (side_of side) (layouts_of s) fits (its_bytes s a)) (λ x h. untouched (side_of side) x g.2 h)
  where
    untouched : (freed x : Side) → holds (hold_of s) freed ≡ false → holds (hold_of s) x ≡ true →
        layout (free (table_of s) freed (layouts_of s)) x ≡ layout (layouts_of s) x
    untouched left left p q = absurd (true≢false (sym q ∙ p))
    untouched left right p q = refl
    untouched right left p q = refl
    untouched right right p q = absurd (true≢false (sym q ∙ p))

-- a run's last layouts fit, and so do a hand list's
pub ran_fits : (s : List ℕ) (a : refusal s ≡ 0) (allowance : ℕ) → Fits (accepted_fair s a) (ran_to s allowance).last
ran_fits s a allowance =
    let F = accepted_fair s a in
    let fits = accepted_fits s a in
    subst (Fits F) (sym (table-run (table_of s) F allowance (layouts_of s) fits).is_after)
    (stays_good (Fits F) (crossings (table_of s)) (Least (table_of s)) (free (table_of s)) (frees (table_of s) F)
    (ran_to s allowance).turns left (layouts_of s) fits)

run_keeps : (s : List ℕ) (allowance : ℕ) → run_refusal s allowance ≡ 0 → Keeps s (relaid s (ran_to s allowance).last)
run_keeps s allowance e =
    let g = running_good s allowance e in
    let a = g.1 in
    let F = accepted_fair s a in
    let fits = accepted_fits s a in
    let ends = table-run (table_of s) F allowance (layouts_of s) fits in
    let bytes = after-bytes (table_of s) F (ran_to s allowance).turns left (layouts_of s) fits (its_bytes s a) in
    keeps_relaid s a (ran_to s allowance).last (ran_fits s a allowance)
    (subst Bytes (sym ends.is_after) bytes) (λ x h. absurd (none x g.2 g.3 h))
  where
    none : (x : Side) → holds (hold_of s) left ≡ false → holds (hold_of s) right ≡ false → holds (hold_of s) x ≡ true → ⊥
    none left p q h = true≢false (sym h ∙ p)
    none right p q h = true≢false (sym h ∙ q)

-- turning rows over leaves a layout as long as it was
handed-long : (hands : List Hand) (at : Layouts) (side : Side) → length (layout (handed at hands) side) ≡ length (layout at side)
unfolding handed
handed-long [] at side = refl
handed-long (h ∷ hs) at side = handed-long hs _ side ∙ by (side_of h.side) side
  where
    by : (x y : Side) → length (layout (put x (turn_row (layout at x) h.row) at) y) ≡ length (layout at y)
    by left left = simp length-set
    by left right = refl
    by right left = refl
    by right right = simp length-set

pub handed_fits : (s : List ℕ) (a : refusal s ≡ 0) (hands : List Hand) → Fits (accepted_fair s a) (handed (layouts_of s) hands)
handed_fits s a hands side = handed-long hands (layouts_of s) side ∙ accepted_fits s a side

handed-bytes : (hands : List Hand) (at : Layouts) → Bytes at → Bytes (handed at hands)
unfolding handed
handed-bytes [] at b = b
handed-bytes (h ∷ hs) at b = handed-bytes hs _ (by (side_of h.side))
  where
    by : (x : Side) → Bytes (put x (turn_row (layout at x) h.row) at)
    by left left = set-bytes at.left_bytes (pred h.row) _ (flip-small (byte at.left_bytes h.row)) (b left)
    by left right = b right
    by right left = b left
    by right right = set-bytes at.right_bytes (pred h.row) _ (flip-small (byte at.right_bytes h.row)) (b right)

hands-keep : (s : List ℕ) (hands : List Hand) → hands_refusal s hands ≡ 0 → Keeps s (relaid s (handed (layouts_of s) hands))
hands-keep s hands e =
    let a = (handing_accepted s hands e).1 in
    keeps_relaid s a (handed (layouts_of s) hands) (handed_fits s a hands)
    (handed-bytes hands (layouts_of s) (its_bytes s a)) (λ side h. held_kept s hands e side h)

pub held_stays : HeldStays.HeldStays
held_stays = record {
  free = λ s side answer s' o. afterwards (Keeps s) (free_refusal s side) o.afterwards (free_keeps s side) (keeps_same s);
  run = λ s allowance answer s' o.
      afterwards (Keeps s) (run_refusal s allowance) o.afterwards (run_keeps s allowance) (keeps_same s);
  hands = λ s hands answer s' o.
      afterwards (Keeps s) (hands_refusal s hands) o.afterwards (hands-keep s hands) (keeps_same s);
}

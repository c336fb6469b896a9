-- Text put after text is put as one; and bytes copied into a part of memory are put there.
use Prim.Native.Nat.{ℕ, ◌+◌, ◌-◌, ◌≤◌}
use mathlib.Core.Path.{◌≡◌, sym, ap, ◌∙◌}
use mathlib.Core.List.{List, ◌++◌, append_assoc}
use native.Mathlib.Omega.{arith}
use lib.ListN.{length, take, drop, length-append}
use lib.Seq.{sets, length-sets, sets-eq, drop-drop}
use borrow.Rule.Slice.PartMut.{put_mid}
use Rattle.work_trees.proofs.Stores.{sets-append}
use Rattle.work_text.specs.Puts.{Puts}

-- the memory is as long as before
pub put-long : {a out out' : List ℕ} {at end : ℕ} → Puts a out at end out' → length out' ≡ length out
put-long {a} {out} {at = at} p = ap length p.writes ∙ length-sets out at a

module _ {a b out out₁ out₂ : List ℕ} {at mid end : ℕ} where
  pub put-joined : Puts a out at mid out₁ → Puts b out₁ mid end out₂ → Puts (a ++ b) out at end out₂
  put-joined p q = record {
    ends = rw (length-append a b) (omega (arith, p.ends, q.ends));
    within = omega (arith, q.within, put-long p);
    writes = q.writes ∙ rw (p.ends, p.writes) (sym (sets-append a b out at));
  }

-- what is left of the room for a text and r bytes more, when the text is put
pub put-room : {a out out' : List ℕ} {at end : ℕ} → Puts a out at end out' → (r : ℕ) → at + (length a + r) ≤ length out →
    end + r ≤ length out'
put-room p r h = omega (arith, p.ends, put-long p)

-- the memory after s is copied to the part that begins at `at` and is as long as s
pub copied_put : (s out : List ℕ) (at : ℕ) → at + length s ≤ length out → put_mid at (at + length s - at) out s ≡ sets out at s
copied_put s out at h =
    let long : at + length s - at ≡ length s = omega arith in
    rw long (rw (drop-drop (length s) at out) (sym (sets-eq s out at h ∙ append_assoc (take at out) s (drop (at + length s) out))))

use Rattle.std.proofs.Common.{◌≡◌, ◌∙◌, ap, ℕ, ◌+◌, ◌-◌, ◌*◌, ◌≤◌, ◌<◌, List, length, length-set, get_or, arith}
use Rattle.work_trees.specs.Rows.{size, object_of, GoodRows}
use Rattle.work_newick_writing.specs.Counts.{TextCounts, bytes_of, written}
use Rattle.work_newick_writing.proofs.Written.{leaf-written}
use Rattle.work_newick_writing.proofs.Counted.{count-is}
use Rattle.work_newick_writing.proofs.Remains.{Remains, remains_long, remains_leaf, falls, room, upper-done, lower-done}
use Rattle.work_newick_writing.proofs.counting.TreeText.+walk.Goals.{After-from-k, After-from-second}
use Rattle.work_newick_writing.proofs.counting.TreeText.+walk.Goals as goal

-- ---- at a row's object: the row's two entries at its place k, and their texts

module _ (T : List ℕ) (k : ℕ) where
  abbrev a : ℕ
  a = get_or T (2 * k) 0

  abbrev b : ℕ
  b = get_or T (2 * k + 1) 0

  abbrev A : List ℕ
  A = written (object_of T a)

  abbrev B : List ℕ
  B = written (object_of T b)

record Known (T out₀ out : List ℕ) (obj at k : ℕ) : Type 0 where
  below : obj < 2 * size T
  index : obj < 1024
  a_falls : a T k < obj
  b_falls : b T k < obj
  same : length out ≡ length out₀
  fits : at + (length (A T k) + length (B T k) + 3) ≤ length out

known : {T out₀ : List ℕ} {top from : ℕ} {out : List ℕ} {obj at k : ℕ} → GoodRows T → Remains T out₀ top from out obj at →
    size T < obj → top < 2 * size T → k ≡ obj - size T - 1 → Known T out₀ out obj at k
known {T = T} {obj = obj} g r h bound place =
    let most = g.most in
    let below : obj < 2 * size T = omega (arith, r.most) in
    let less = falls g r h below place in
    record {
      below = below;
      index = omega arith;
      a_falls = less.0;
      b_falls = less.1;
      same = remains_long g r;
      fits = room g r h below place;
    }

-- the entries' counts, and the room that they ask
record Within (T out₀ out : List ℕ) (obj at k first second : ℕ) : Type 0 where
  first_is : first ≡ length (A T k)
  second_is : second ≡ length (B T k)
  same : length out ≡ length out₀
  fits : at + (first + second + 3) ≤ length out

within : {T bytes out₀ out : List ℕ} {obj at k first second : ℕ} → GoodRows T → TextCounts T bytes → Known T out₀ out obj at k →
    first ≡ bytes_of bytes (size T) (a T k) → second ≡ bytes_of bytes (size T) (b T k) →
    Within T out₀ out obj at k first second
within {T = T} {k = k} {first = first} {second = second} g counts here x y =
    let below = here.below in
    let p : first ≡ length (A T k) = x ∙ count-is g counts (a T k) (omega (arith, here.a_falls)) in
    let q : second ≡ length (B T k) = y ∙ count-is g counts (b T k) (omega (arith, here.b_falls)) in
    record { first_is = p; second_is = q; same = here.same; fits = omega (arith, here.fits) }

-- ---- where the code stands: k was read, and then the two counts

known-here : (t : ℕ) (c : After-from-k t) →
    Known c.args.self.now.rows.now c.args.out.now c.loop-obj.out c.loop-obj.obj c.loop-obj.at c.from-k.result
known-here t c = known c.args.self.now.good_rows c.loop-obj.invariant c.loop-obj-test.true c.requires.top_bound c.from-k.ensures

within-here : (t : ℕ) (c : After-from-second t) →
    Within c.args.self.now.rows.now c.args.out.now c.loop-obj.out c.loop-obj.obj c.loop-obj.at c.from-k.result
    c.from-first.result c.from-second.result
within-here t c =
    let s = c.args.self.now in
    let k = known s.good_rows c.loop-obj.invariant c.loop-obj-test.true c.requires.top_bound c.from-k.ensures in
    within s.good_rows s.counts k (c.from-first.ensures ∙ c.bytes_under.ensures) (c.from-second.ensures ∙ c.bytes_under-in-loop-obj.ensures)

-- ---- the goals

pub bytes_under-requires : goal.bytes_under-requires
bytes_under-requires t c =
    let g = c.args.self.now.good_rows in
    let k = known-here t (goal.at.bytes_under-requires t c).After-from-k in
    (g.some, g.most, omega arith)

pub bytes_under-requires-in-loop-obj : goal.bytes_under-requires-in-loop-obj
bytes_under-requires-in-loop-obj t c =
    let g = c.args.self.now.good_rows in
    let k = known-here t (goal.at.bytes_under-requires-in-loop-obj t c).After-from-k in
    (g.some, g.most, omega arith)

pub bounds-out-at : goal.bounds-out-at
bounds-out-at t c = let w = within-here t (goal.at.bounds-out-at t c).After-from-second in omega arith

pub bounds-out-mid : goal.bounds-out-mid
bounds-out-mid t c = let w = within-here t (goal.at.bounds-out-mid t c).After-from-second in simp length-set (omega arith)

pub bounds-out-mid-in-loop-obj : goal.bounds-out-mid-in-loop-obj
bounds-out-mid-in-loop-obj t c =
    let w = within-here t (goal.at.bounds-out-mid-in-loop-obj t c).After-from-second in simp length-set (omega arith)

pub walk-requires : goal.walk-requires
walk-requires t c =
    let k = known-here t (goal.at.walk-requires t c).After-from-k in
    let w = within-here t (goal.at.walk-requires t c).After-from-second in
    let most = c.loop-obj.invariant.most in
    (omega arith, (omega arith, simp length-set (omega arith)))

pub loop-obj-smaller-then-first-second : goal.loop-obj-smaller-then-first-second
loop-obj-smaller-then-first-second t c = (known-here t (goal.at.loop-obj-smaller-then-first-second t c).After-from-k).b_falls

pub loop-obj-preserved-then-first-second : goal.loop-obj-preserved-then-first-second
loop-obj-preserved-then-first-second t c =
    let k = known-here t (goal.at.loop-obj-preserved-then-first-second t c).After-from-k in
    let w = within-here t (goal.at.loop-obj-preserved-then-first-second t c).After-from-second in
    upper-done c.args.self.now.good_rows c.loop-obj.invariant c.loop-obj-test.true k.below c.from-k.ensures _ _ w.first_is w.second_is _
    c.walk.ensures

pub walk-requires-else-first-second : goal.walk-requires-else-first-second
walk-requires-else-first-second t c =
    let k = known-here t (goal.at.walk-requires-else-first-second t c).After-from-k in
    let w = within-here t (goal.at.walk-requires-else-first-second t c).After-from-second in
    let most = c.loop-obj.invariant.most in
    (omega arith, (omega arith, simp length-set (omega arith)))

pub loop-obj-smaller : goal.loop-obj-smaller
loop-obj-smaller t c = (known-here t (goal.at.loop-obj-smaller t c).After-from-k).a_falls

pub loop-obj-preserved : goal.loop-obj-preserved
loop-obj-preserved t c =
    let k = known-here t (goal.at.loop-obj-preserved t c).After-from-k in
    let w = within-here t (goal.at.loop-obj-preserved t c).After-from-second in
    lower-done c.args.self.now.good_rows c.loop-obj.invariant c.loop-obj-test.true k.below c.from-k.ensures _ _ w.first_is w.second_is _
    c.walk-else-first-second.ensures

pub write_leaf-requires : goal.write_leaf-requires
write_leaf-requires t c =
    let g = c.args.self.now.good_rows in
    let most = g.most in
    let h = c.loop-obj-test.false in
    (omega arith, omega (arith, c.loop-obj.invariant.fits, ap length (leaf-written g c.loop-obj.obj h)))

pub returns : goal.returns
returns t c = c.write_leaf.ensures ∙ remains_leaf c.args.self.now.good_rows c.loop-obj.invariant c.loop-obj-test.false

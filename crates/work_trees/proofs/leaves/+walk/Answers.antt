use Rattle.std.proofs.Common.{◌≡◌, ◌∙◌, ap, refl, ℕ, ◌+◌, ◌-◌, ◌*◌, ◌≤◌, ◌<◌, List, length, get_or, arith}
use Rattle.tanglegram.specs.Tree.{leaves}
use Rattle.work_trees.specs.Rows.{size, object_of, count_of, GoodRows, LeafCounts}
use Rattle.work_trees.proofs.LeafCounts.{count-is}
use Rattle.work_trees.proofs.Walked.{leaves-leaf, length-fork, upper-falls, lower-falls}
use Rattle.work_trees.proofs.Walked.{sets-fork, sets-fork-back, sets-upper-leaf, sets-lower-leaf}
use Rattle.work_trees.proofs.leaves.+walk.Goals.{Else-obj-n, After-from-first}
use Rattle.work_trees.proofs.leaves.+walk.Goals as goal

-- ---- where the object is no leaf: the two entries of its row, at 2i and 2i + 1, and the leaves under each

module _ (T : List ℕ) (i : ℕ) where
  abbrev a : ℕ
  a = get_or T (2 * i) 0

  abbrev b : ℕ
  b = get_or T (2 * i + 1) 0

  abbrev A : List ℕ
  A = leaves (object_of T a)

  abbrev B : List ℕ
  B = leaves (object_of T b)

record Known (T many : List ℕ) (obj at i : ℕ) : Type 0 where
  a_falls : (1 ≤ a T i) × (a T i < obj)
  b_falls : (1 ≤ b T i) × (b T i < obj)
  long : length (leaves (object_of T obj)) ≡ length (A T i) + length (B T i)
  a_size : count_of many (size T) (a T i) ≡ length (A T i)
  b_size : count_of many (size T) (b T i) ≡ length (B T i)
  a_leaf : a T i ≤ size T → length (A T i) ≡ 1
  b_leaf : b T i ≤ size T → length (B T i) ≡ 1
  fits : at + (length (A T i) + length (B T i)) ≤ 512

known : (T many : List ℕ) (obj at i : ℕ) → GoodRows T → LeafCounts T many → obj < 2 * size T →
    at + length (leaves (object_of T obj)) ≤ 512 → size T < obj → i ≡ obj - size T - 1 → Known T many obj at i
known T many obj at i g counts h room l e =
    let u = upper-falls T g obj l h in
    let v = lower-falls T g obj l h in
    let long = length-fork T g obj l h in
    rw e record {
      a_falls = u;
      b_falls = v;
      long = long;
      a_size = count-is T g many counts _ u.0 (omega arith);
      b_size = count-is T g many counts _ v.0 (omega arith);
      a_leaf = λ x. ap length (leaves-leaf T g _ x);
      b_leaf = λ x. ap length (leaves-leaf T g _ x);
      fits = omega (arith, room);
    }

known_of : (t : ℕ) (c : Else-obj-n t) (i : ℕ) → i ≡ c.args.obj - size c.args.rows.now - 1 →
    Known c.args.rows.now c.args.many.now c.args.obj c.args.at i
known_of t c i e =
    let good = c.requires.good_rows in
    known _ _ _ _ i good.0 good.1 c.requires.le_obj.1 c.requires.obj_bound c.if-obj-n.false e

-- ---- the goals

pub bounds-out-at : goal.bounds-out-at
bounds-out-at t c =
    omega (arith, ap length (leaves-leaf c.args.rows.now c.requires.good_rows.0 c.args.obj c.if-obj-n.true))

pub returns-then-obj-n : goal.returns-then-obj-n
returns-then-obj-n t c =
    rw (leaves-leaf c.args.rows.now c.requires.good_rows.0 c.args.obj c.if-obj-n.true) refl

pub bounds-out-at-then-a-n : goal.bounds-out-at-then-a-n
bounds-out-at-then-a-n t c =
    let k = known_of t (goal.at.bounds-out-at-then-a-n t c).Else-obj-n _ c.from-i.ensures in
    omega (arith, k.a_leaf c.if-a-n.true)

pub walk-requires : goal.walk-requires
walk-requires t c =
    let k = known_of t (goal.at.walk-requires t c).Else-obj-n _ c.from-i.ensures in
    (omega arith, (c.requires.good_rows, ((k.b_falls.0, omega arith), omega (arith, k.a_leaf c.if-a-n.true))))

pub returns-then-a-n : goal.returns-then-a-n
returns-then-a-n t c =
    let T = c.args.rows.now in
    let g = c.requires.good_rows.0 in
    let leaf = rw c.from-i.ensures at c.if-a-n.true in
    c.walk.ensures
    ∙ rw c.from-i.ensures (sets-upper-leaf T g c.args.obj c.if-obj-n.false c.requires.le_obj.1 leaf c.args.out.now c.args.at)

pub leaves_under-requires : goal.leaves_under-requires
leaves_under-requires t c =
    let g = c.requires.good_rows.0 in
    let k = known_of t (goal.at.leaves_under-requires t c).Else-obj-n _ c.from-i.ensures in
    rw (c.from.ensures, c.from-2.ensures) (g.some, g.most, omega arith)

first_is : (t : ℕ) (c : After-from-first t) → Known c.args.rows.now c.args.many.now c.args.obj c.args.at c.from-i.result →
    c.from-first.result ≡ length (A c.args.rows.now c.from-i.result)
first_is t c k = c.from-first.ensures ∙ (rw (c.from.ensures, c.from-2.ensures) at c.leaves_under.ensures) ∙ k.a_size

pub bounds-out-mid : goal.bounds-out-mid
bounds-out-mid t c =
    let k = known_of t (goal.at.bounds-out-mid t c).Else-obj-n _ c.from-i.ensures in
    omega (arith, first_is t (goal.at.bounds-out-mid t c).After-from-first k, k.b_leaf c.if-b-n.true)

pub walk-requires-then-b-n : goal.walk-requires-then-b-n
walk-requires-then-b-n t c =
    let k = known_of t (goal.at.walk-requires-then-b-n t c).Else-obj-n _ c.from-i.ensures in
    (omega arith, (c.requires.good_rows, ((k.a_falls.0, omega arith), omega arith)))

pub returns-then-b-n : goal.returns-then-b-n
returns-then-b-n t c =
    let T = c.args.rows.now in
    let k = known_of t (goal.at.returns-then-b-n t c).Else-obj-n _ c.from-i.ensures in
    let first = first_is t (goal.at.returns-then-b-n t c).After-from-first k in
    let leaf = rw c.from-i.ensures at c.if-b-n.true in
    c.walk-then-b-n.ensures
    ∙ rw (first, c.from-i.ensures)
    (sets-lower-leaf T c.requires.good_rows.0 c.args.obj c.if-obj-n.false c.requires.le_obj.1 leaf c.args.out.now c.args.at)

pub leaves_under-requires-2 : goal.leaves_under-requires-2
leaves_under-requires-2 t c =
    let g = c.requires.good_rows.0 in
    let k = known_of t (goal.at.leaves_under-requires-2 t c).Else-obj-n _ c.from-i.ensures in
    rw (c.from-3.ensures, c.from-4.ensures) (g.some, g.most, omega arith)

pub walk-requires-then-first-second : goal.walk-requires-then-first-second
walk-requires-then-first-second t c =
    let k = known_of t (goal.at.walk-requires-then-first-second t c).Else-obj-n _ c.from-i.ensures in
    (omega arith, (c.requires.good_rows, ((k.a_falls.0, omega arith), omega arith)))

pub walk-requires-then-first-second-2 : goal.walk-requires-then-first-second-2
walk-requires-then-first-second-2 t c =
    let k = known_of t (goal.at.walk-requires-then-first-second-2 t c).Else-obj-n _ c.from-i.ensures in
    let first = first_is t (goal.at.walk-requires-then-first-second-2 t c).After-from-first k in
    (omega arith, (c.requires.good_rows, ((k.b_falls.0, omega arith), omega arith)))

pub walk-requires-else-first-second : goal.walk-requires-else-first-second
walk-requires-else-first-second t c =
    let k = known_of t (goal.at.walk-requires-else-first-second t c).Else-obj-n _ c.from-i.ensures in
    let first = first_is t (goal.at.walk-requires-else-first-second t c).After-from-first k in
    (omega arith, (c.requires.good_rows, ((k.b_falls.0, omega arith), omega arith)))

pub walk-requires-else-first-second-2 : goal.walk-requires-else-first-second-2
walk-requires-else-first-second-2 t c =
    let k = known_of t (goal.at.walk-requires-else-first-second-2 t c).Else-obj-n _ c.from-i.ensures in
    (omega arith, (c.requires.good_rows, ((k.a_falls.0, omega arith), omega arith)))

pub returns-then-first-second : goal.returns-then-first-second
returns-then-first-second t c =
    let k = known_of t (goal.at.returns-then-first-second t c).Else-obj-n _ c.from-i.ensures in
    let first = first_is t (goal.at.returns-then-first-second t c).After-from-first k in
    c.walk-then-first-second-2.ensures
    ∙ rw (c.walk-then-first-second.ensures, first, c.from-i.ensures)
    (sets-fork _ c.requires.good_rows.0 c.args.obj c.if-obj-n.false c.requires.le_obj.1 c.args.out.now c.args.at)

pub returns-else-first-second : goal.returns-else-first-second
returns-else-first-second t c =
    let k = known_of t (goal.at.returns-else-first-second t c).Else-obj-n _ c.from-i.ensures in
    let first = first_is t (goal.at.returns-else-first-second t c).After-from-first k in
    c.walk-else-first-second-2.ensures
    ∙ rw (c.walk-else-first-second.ensures, first, c.from-i.ensures)
    (sets-fork-back _ c.requires.good_rows.0 c.args.obj c.if-obj-n.false c.requires.le_obj.1 c.args.out.now c.args.at)

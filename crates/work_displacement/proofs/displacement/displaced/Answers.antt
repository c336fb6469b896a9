-- `displaced` meets its contract: link by link the squares of the two arrays' entries, at most 512 of at most 261,121.
use Rattle.std.proofs.Common.{List, [], ap, arith, drop, drop-cons, get_or, length, mul-le-mul, refl, rules, suc, take, zero}
use Rattle.std.proofs.Common.{ℕ, ◌*◌, ◌+◌, ◌-◌, ◌<◌, ◌∙◌, ◌∷◌, ◌≡◌, ◌≤◌}
use Rattle.std.specs.List.{sum_by, zip}
use Rattle.std.proofs.lemmas.Iterator.{YieldsList-from_map, YieldsList-from_slice, YieldsList-from_zip}
use Rattle.std.proofs.lemmas.Iterator.Consumers.{YieldsList-at, fits_by_from_yields_list, sum_by_from_yields_List}
use Rattle.std.proofs.lemmas.List.Sums.{sum_by-cons}
use Rattle.tanglegram.specs.Entanglement.{squared, sum}
use Rattle.tanglegram.specs.Lists.{Each, range}
use Rattle.tanglegram.proofs.Lists.{each_map, length-range}
use Rattle.work_places.specs.Arrays.{at}
use Rattle.work_displacement.proofs.displacement.displaced.Goals.{After-map}
use Rattle.work_displacement.proofs.displacement.displaced.Goals as goal

module _ (xs ys : List ℕ) where
  -- from place k on, d of the pairs
  from_place : (k d : ℕ) → k + d ≤ length xs → k + d ≤ length ys →
      sum_by (λ p. squared p.0 p.1) (zip (take d (drop k xs)) (drop k ys)) ≡ sum (λ a. squared (at xs a) (at ys a)) (range (suc k) d)
  unfolding sum range
  from_place k zero h g = refl
  from_place k (suc d) h g =
      let x = get_or xs k 0 in
      let y = get_or ys k 0 in
      rw (drop-cons xs k 0 (omega arith), drop-cons ys k 0 (omega arith)) (
      sum_by-cons (λ p. squared p.0 p.1) (x, y) (zip (take d (drop (suc k) xs)) (drop (suc k) ys))
      ∙ ap (λ m. squared x y + m) (from_place (suc k) d (omega arith) (omega arith))
      )

squares_small : (f : ℕ → ℕ) (xs : List ℕ) → Each (λ a. f a ≤ 261121) xs → sum f xs ≤ 261121 * length xs
unfolding sum
squares_small f [] e = omega arith
squares_small f (x ∷ xs) e = omega (arith, e.0, squares_small f xs e.1)

square_small : (x y : ℕ) → x < 512 → y < 512 → squared x y ≤ 261121
square_small x y h g = let d : x - y + (y - x) ≤ 511 = omega arith in mul-le-mul d d

pub sum-requires-clause-fits : goal.sum-requires-clause-fits
sum-requires-clause-fits c =
    let a = c.args in
    let left = take a.n a.left.now in
    let far = a.far.now in
    let f = λ (b : ℕ). squared (at a.left.now b) (at far b) in
    let small = squares_small f (range 1 a.n) (each_map (range 1 a.n) (λ b h. square_small _ _ h.0 h.1) c.requires.1) in
    fits_by_from_yields_list (λ p. squared p.0 p.1) (zip left far) c.map.result _
    (YieldsList-from_map _ (λ p. squared p.0 p.1)
    (YieldsList-at c.map.ensures.source (YieldsList-from_zip (YieldsList-from_slice left cc) (YieldsList-from_slice far cc)))
    c.map.ensures.closure (λ x r q k. search rules))
    (omega (arith, from_place a.left.now far 0 a.n (omega arith) (omega arith), small, length-range 1 a.n))

pub returns : goal.returns
returns c =
    let a = c.args in
    let left = take a.n a.left.now in
    let far = a.far.now in
    sum_by_from_yields_List (λ p. squared p.0 p.1) (zip left far) c.map.result c.sum.result c.sum.ensures.ran
    (YieldsList-from_map _ (λ p. squared p.0 p.1)
    (YieldsList-at c.map.ensures.source (YieldsList-from_zip (YieldsList-from_slice left cc) (YieldsList-from_slice far cc)))
    c.map.ensures.closure (λ x r q k. search rules))
    ∙ from_place a.left.now far 0 a.n (omega arith) (omega arith)

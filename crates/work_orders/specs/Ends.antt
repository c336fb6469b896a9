-- Where the links of a side's leaves end in an order of the other side.
use Rattle.std.specs.Prelude.{ℕ, List}
use Rattle.tanglegram.specs.Crossings.{end}
use Rattle.tanglegram.specs.declared.side.Side.{Side}
use Rattle.tanglegram.specs.Table.{pick}
use Rattle.work_places.specs.Arrays.{begin}

-- Where the link of a leaf of `side` ends in the order τ of the other side: of a left leaf in a right order, of a right leaf in a left one.
abbrev pub far_end : Side → List ℕ → List ℕ → ℕ → ℕ
far_end side ps τ = pick (end ps τ) (begin ps τ) side

-- One row of a side that is freed: its own crossings from two runs of links, whether it is turned over, and its byte, its entries and its
-- own crossings afterwards.
use Rattle.std.specs.Prelude.{ℕ, pred, ◌+◌, ◌≡◌, Bool, cond, ◌&&◌, List, ltb, set, take, drop}
use Rattle.tanglegram.specs.Order.{byte, may_change, flip}
use Rattle.tanglegram.specs.Crossings.{across}
use Rattle.work_trees.specs.Exchange.{exchanged_at}
use Rattle.work_places.specs.Arrays.{falls}

-- The crossings of two runs of links by their far places, `first` of them from index `at` on and `second` right after: as they stand, and
-- the other way round.
abbrev pub as_it_stands : List ℕ → ℕ → ℕ → ℕ → ℕ
as_it_stands seen at first second = across falls (take first (drop at seen)) (take second (drop (at + first) seen))

abbrev pub the_other : List ℕ → ℕ → ℕ → ℕ → ℕ
the_other seen at first second = across falls (take second (drop (at + first) seen)) (take first (drop at seen))

-- Freeing turns a row over, from its byte and its own crossings as it stands and turned over: if the byte may change, and that makes
-- them strictly fewer.
abbrev pub turns_over : ℕ → ℕ → ℕ → Bool
turns_over x count other = may_change x && ltb other count

-- Its byte, and its own crossings, after freeing: `choose` of `tanglegram` is this byte at its test.
abbrev pub byte_after : ℕ → Bool → ℕ
byte_after x turns = cond turns (flip x) x

abbrev pub own_after : ℕ → ℕ → Bool → ℕ
own_after count other turns = cond turns other count

-- One row decided, in a row array and in its layout.
pub record Decided (turns : Bool) (W lay : List ℕ) (row count other answer : ℕ) (W' lay' : List ℕ) : Type 0 where
  pub answers : answer ≡ own_after count other turns
  pub rows : W' ≡ cond turns (exchanged_at W row) W
  pub bytes : lay' ≡ cond turns (set lay (pred row) (flip (byte lay row))) lay

abbrev pub Decides : List ℕ → List ℕ → ℕ → ℕ → ℕ → ℕ → List ℕ → List ℕ → Type 0
Decides W lay row count other = Decided (turns_over (byte lay row) count other) W lay row count other

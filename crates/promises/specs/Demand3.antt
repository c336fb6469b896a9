-- Demand 3: "Take an accepted record with neither side held and an allowance from 1 to 130,818. Turns alternate, left first, each by
-- demand 2. No turn raises the count. The turns taken are at most the first count less the last, plus two. An allowance of the first
-- count plus two always ends settled, and settled means that no choice on either side alone, the other standing, crosses less."
use Rattle.std.specs.Prelude.{ℕ, zero, suc, pred, ◌+◌, ◌≤◌, ◌<◌, ◌≡◌, List}
use Rattle.tanglegram.specs.declared.side.Side.{Side}
use Rattle.tanglegram.specs.declared.side.Side.TheVariants.{Left as left}
use Rattle.tanglegram.specs.Run.{other, after}
use Rattle.tanglegram.specs.Table.{Layouts, crossings, free, Least}
use Rattle.record_fields.specs.Fields.{hold_of}
use Rattle.record_fields.specs.Refusals.{refusal}
use Rattle.record_fields.specs.Meaning.{table_of, layouts_of, relaid}
use Rattle.calls_turns.specs.Answers.{Ran}
use Rattle.record_arrays.specs.Shown.{shown_count}
use Rattle.calls_turns.specs.Calls.{Runs}

-- The layouts after j turns, the left first.
abbrev pub layouts_after : List ℕ → ℕ → Layouts
layouts_after s j = after (free (table_of s)) j left (layouts_of s)

-- Their count.
abbrev pub count_after : List ℕ → ℕ → ℕ
count_after s j = crossings (table_of s) (layouts_after s j)

-- The side whose turn is next after j turns, `side` first.
unfoldable pub next_after : ℕ → Side → Side
next_after zero side = side
next_after (suc j) side = next_after j (other side)

-- What a run of s that answers so and leaves s' keeps.
pub record RunKeeps (s : List ℕ) (allowance : ℕ) (answer : Ran) (s' : List ℕ) : Type 0 where
  pub accepted : answer.refusal.number ≡ 0
  -- The counts are those of the record before and after.
  pub first_count : answer.first ≡ shown_count s
  pub last_count : answer.last ≡ shown_count s'
  -- Turns alternate, left first: the record afterwards has the layouts after exactly that many turns, and each of them is what
  -- freeing does to the side whose turn it is.
  pub alternate : s' ≡ relaid s (layouts_after s answer.turns)
  pub each_frees : (j : ℕ) → layouts_after s (suc j) ≡ free (table_of s) (next_after j left) (layouts_after s j)
  pub within : answer.turns ≤ allowance
  -- No turn raises the count.
  pub no_rise : (j : ℕ) → count_after s (suc j) ≤ count_after s j
  -- Turns taken are at most the first count less the last, plus two.
  pub few_turns : answer.turns + answer.last ≤ answer.first + 2
  -- A first turn without gain does not end it: every turn gained, but for turn 1 and the last.
  pub goes_on : (j : ℕ) → 1 ≤ j → suc j < answer.turns → count_after s (suc j) < count_after s j
  pub two_turns : 2 ≤ allowance → 2 ≤ answer.turns
  -- Settled is 1 or 0. If it is 1, the last turn gained nothing, and it is not turn 1; if it is 0, the last turn gained too, unless
  -- it is turn 1. So an allowance of 1 never settles.
  pub settled_or_not : answer.settled ≤ 1
  pub last_gained_nothing : answer.settled ≡ 1 → count_after s answer.turns ≡ count_after s (pred answer.turns)
  pub not_turn_1 : answer.settled ≡ 1 → 2 ≤ answer.turns
  pub last_gained : answer.settled ≡ 0 → 2 ≤ answer.turns → count_after s answer.turns < count_after s (pred answer.turns)
  pub not_by_one : allowance ≡ 1 → answer.settled ≡ 0
  -- An allowance of the first count plus two ends settled; otherwise the allowance is used up.
  pub in_time : answer.first + 2 ≤ allowance → answer.settled ≡ 1
  pub used_up : answer.settled ≡ 0 → answer.turns ≡ allowance
  -- Settled: no choice on either side alone, the other standing, crosses less; a choice agrees with the pinned rows.
  pub least : answer.settled ≡ 1 → (side : Side) → Least (table_of s') side (layouts_of s')

pub record Demand3 : Type 0 where
  pub run : (s : List ℕ) (allowance : ℕ) (answer : Ran) (s' : List ℕ) → Runs s allowance answer s' →
      refusal s ≡ 0 → hold_of s ≡ 78 → 1 ≤ allowance → allowance ≤ 130818 → RunKeeps s allowance answer s'

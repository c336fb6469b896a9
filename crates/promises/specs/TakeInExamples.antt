-- Orders taken in: what each comes to, of a case's record under a hold. The bytes lent are nines, so that one sees what was written.
use Rattle.std.specs.Prelude.{ℕ, List, [], ◌∷◌}
use Rattle.tanglegram.specs.Lists.{bit}
use Rattle.tanglegram.specs.Table.{crossings}
use Rattle.tanglegram.specs.Examples.{Case, bytes_of, case2, root_pinned, roots_tie, one_leaf}
use Rattle.record_fields.specs.Refused.{lent, or_zero}
use Rattle.record_fields.specs.Meaning.{table_of}
use Rattle.record_arrays.specs.Sides.{side_of}
use Rattle.calls_take_in.specs.Refusals.{take_in_refusal}
use Rattle.calls_take_in.specs.Calls.{taken_bytes, taken_layouts, gains_nothing}
use Rattle.promises.specs.Cases.{held_record_of}

-- What taking in comes to: its number, the count, least or not, and the buffer afterwards.
pub record TakenTo : Type 0 where
  pub refused : ℕ
  pub count : ℕ
  pub least : ℕ
  pub buffer : List ℕ

-- A case, a hold, a side, an order, a buffer; and what comes of it.
pub record TakenLine : Type 0 where
  pub from : Case
  pub hold : ℕ
  pub side : ℕ
  pub proposed : List ℕ
  pub buffer : List ℕ
  pub comes_to : TakenTo

abbrev pub taken_to : TakenLine → TakenTo
taken_to l =
    let s = held_record_of l.hold l.from in
    let y = side_of l.side in
    let k = take_in_refusal s l.side l.proposed l.buffer in
    record {
      refused = k;
      count = or_zero k (crossings (table_of s) (taken_layouts s y l.proposed));
      least = or_zero k (bit (gains_nothing (table_of s) y (taken_layouts s y l.proposed)));
      buffer = lent k (taken_bytes s y l.proposed) l.buffer;
    }

abbrev taken_line : Case → ℕ → ℕ → List ℕ → List ℕ → ℕ → ℕ → ℕ → List ℕ → TakenLine
taken_line g hold side xs out k count least after = record {
  from = g;
  hold = hold;
  side = side;
  proposed = xs;
  buffer = out;
  comes_to = record { refused = k; count = count; least = least; buffer = after };
}

-- Example 5 with nothing turned over.
abbrev tie : Case
tie = roots_tie (bytes_of (0 ∷ 0 ∷ []) (0 ∷ 0 ∷ []))

abbrev nines : List ℕ
nines = 9 ∷ 9 ∷ 9 ∷ 9 ∷ []

abbrev pub taken_examples : List TakenLine
taken_examples =
    -- case 2's left: its present order; the one that freeing leaves, which is least; one between; with both sides held
    taken_line case2 78 1 (4 ∷ 3 ∷ 1 ∷ 2 ∷ []) nines 0 5 0 (0 ∷ 0 ∷ 0 ∷ 9 ∷ [])
    ∷ taken_line case2 78 1 (1 ∷ 2 ∷ 3 ∷ 4 ∷ []) nines 0 0 1 (0 ∷ 1 ∷ 1 ∷ 9 ∷ [])
    ∷ taken_line case2 78 1 (2 ∷ 1 ∷ 3 ∷ 4 ∷ []) nines 0 1 0 (1 ∷ 1 ∷ 1 ∷ 9 ∷ [])
    ∷ taken_line case2 66 1 (1 ∷ 2 ∷ 3 ∷ 4 ∷ []) nines 0 0 1 (0 ∷ 1 ∷ 1 ∷ 9 ∷ [])
    -- its right, against 4 3 1 2
    ∷ taken_line case2 78 2 (4 ∷ 3 ∷ 1 ∷ 2 ∷ []) nines 0 0 1 (0 ∷ 1 ∷ 1 ∷ 9 ∷ [])
    -- no compatible order: 1 and 2 apart, too few entries, a 0, a leaf twice, a leaf 5; more entries than n do no harm
    ∷ taken_line case2 78 1 (1 ∷ 3 ∷ 2 ∷ 4 ∷ []) nines 16 0 0 nines
    ∷ taken_line case2 78 1 (1 ∷ 2 ∷ 3 ∷ []) nines 16 0 0 nines
    ∷ taken_line case2 78 1 (0 ∷ 2 ∷ 3 ∷ 4 ∷ []) nines 16 0 0 nines
    ∷ taken_line case2 78 1 (1 ∷ 1 ∷ 3 ∷ 4 ∷ []) nines 16 0 0 nines
    ∷ taken_line case2 78 1 (1 ∷ 2 ∷ 3 ∷ 5 ∷ []) nines 16 0 0 nines
    ∷ taken_line case2 78 1 (1 ∷ 2 ∷ 3 ∷ 4 ∷ 1 ∷ []) nines 0 0 1 (0 ∷ 1 ∷ 1 ∷ 9 ∷ [])
    -- with the left root pinned as given: leaf 4 may not stand below; the pin comes back, and 3 is then the least
    ∷ taken_line root_pinned 78 1 (1 ∷ 2 ∷ 3 ∷ 4 ∷ []) nines 23 0 0 nines
    ∷ taken_line root_pinned 78 1 (4 ∷ 1 ∷ 2 ∷ 3 ∷ []) nines 0 3 1 (0 ∷ 1 ∷ 2 ∷ 9 ∷ [])
    ∷ taken_line root_pinned 78 1 (4 ∷ 3 ∷ 1 ∷ 2 ∷ []) nines 0 5 0 (0 ∷ 0 ∷ 2 ∷ 9 ∷ [])
    -- it is no order first, and against a pin then, whatever the buffer; the side before the record, the record before the order
    ∷ taken_line root_pinned 78 1 (1 ∷ 3 ∷ 2 ∷ 4 ∷ []) (9 ∷ 9 ∷ []) 16 0 0 (9 ∷ 9 ∷ [])
    ∷ taken_line root_pinned 78 1 (1 ∷ 2 ∷ 3 ∷ 4 ∷ []) (9 ∷ 9 ∷ []) 23 0 0 (9 ∷ 9 ∷ [])
    ∷ taken_line root_pinned 78 1 (4 ∷ 1 ∷ 2 ∷ 3 ∷ []) (9 ∷ 9 ∷ []) 14 0 0 (9 ∷ 9 ∷ [])
    ∷ taken_line case2 78 3 (1 ∷ 3 ∷ 2 ∷ 4 ∷ []) [] 13 0 0 []
    ∷ taken_line (roots_tie (bytes_of (4 ∷ 0 ∷ []) (0 ∷ 0 ∷ []))) 78 1 (1 ∷ 3 ∷ 2 ∷ []) [] 10 0 0 []
    -- at example 5's tie two orders of the left are least, and a third is not; it is with row 1 pinned turned over, which comes back so
    ∷ taken_line tie 78 1 (1 ∷ 2 ∷ 3 ∷ []) (9 ∷ 9 ∷ []) 0 1 1 (0 ∷ 0 ∷ [])
    ∷ taken_line tie 78 1 (3 ∷ 1 ∷ 2 ∷ []) (9 ∷ 9 ∷ []) 0 1 1 (0 ∷ 1 ∷ [])
    ∷ taken_line tie 78 1 (2 ∷ 1 ∷ 3 ∷ []) (9 ∷ 9 ∷ []) 0 2 0 (1 ∷ 0 ∷ [])
    ∷ taken_line (roots_tie (bytes_of (3 ∷ 0 ∷ []) (0 ∷ 0 ∷ []))) 78 1 (2 ∷ 1 ∷ 3 ∷ []) (9 ∷ 9 ∷ []) 0 2 1 (3 ∷ 0 ∷ [])
    -- one leaf: no rows, and a buffer of no places
    ∷ taken_line (one_leaf 2) 78 1 (1 ∷ []) [] 0 0 1 []
    ∷ taken_line (one_leaf 2) 78 1 (2 ∷ []) [] 16 0 0 []
    ∷ []

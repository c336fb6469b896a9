-- What taking in an order answers, and what the buffer lent to it is afterwards, for every input. The record is only read.
use Rattle.std.specs.Prelude.{ℕ, ◌≡◌, Bool, List, leb}
use Rattle.tanglegram.specs.Lists.{bit}
use Rattle.tanglegram.specs.Order.{pinned_as}
use Rattle.tanglegram.specs.declared.side.Side.{Side}
use Rattle.tanglegram.specs.Table.{Table, Layouts, layout, put, crossings, free}
use Rattle.record_fields.specs.Refused.{lent, or_zero}
use Rattle.record_fields.specs.Told.{told_of}
use Rattle.record_fields.specs.Meaning.{table_of, layouts_of}
use Rattle.record_arrays.specs.Sides.{side_of}
use Rattle.calls_take_in.specs.Answers.{TakenIn}
use Rattle.calls_take_in.specs.Refusals.{shown_on, take_in_refusal}

-- The layout bytes that give the order, each row pinned exactly if it is pinned in the record.
abbrev pub taken_bytes : List ℕ → Side → List ℕ → List ℕ
taken_bytes s side xs = pinned_as (layout (layouts_of s) side) (shown_on s side xs)

-- The record's layouts with these on that side.
abbrev pub taken_layouts : List ℕ → Side → List ℕ → Layouts
taken_layouts s side xs = put side (taken_bytes s side xs) (layouts_of s)

-- Freeing a side would gain nothing: by a theorem, no permitted choice on it crosses less.
abbrev pub gains_nothing : Table → Side → Layouts → Bool
gains_nothing T side at = leb (crossings T at) (crossings T (free T side at))

pub record TakesIn (s : List ℕ) (side : ℕ) (xs out : List ℕ) (answer : TakenIn) (out' : List ℕ) : Type 0 where
  pub answers : answer ≡ record {
    refusal = told_of s (take_in_refusal s side xs out);
    count = or_zero (take_in_refusal s side xs out) (crossings (table_of s) (taken_layouts s (side_of side) xs));
    least = or_zero (take_in_refusal s side xs out) (bit (gains_nothing (table_of s) (side_of side) (taken_layouts s (side_of side) xs)));
  }
  pub afterwards : out' ≡ lent (take_in_refusal s side xs out) (taken_bytes s (side_of side) xs) out

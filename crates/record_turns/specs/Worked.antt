-- What freeing a side, and a run, make of an accepted record: the counts, the turns, and the record afterwards.
use Rattle.std.specs.Prelude.{ℕ, ◌≡◌, List}
use Rattle.tanglegram.specs.Lists.{bit}
use Rattle.tanglegram.specs.declared.side.Side.{Side}
use Rattle.tanglegram.specs.Run.{End, run}
use Rattle.tanglegram.specs.Table.{Layouts, crossings, free}
use Rattle.record_fields.specs.Meaning.{table_of, layouts_of, relaid}
use Rattle.record_arrays.specs.Shown.{shown_count}

-- A side of an accepted record freed, from the layouts `at`, which need not be its own: the counts before and after, and what the layouts
-- become.
pub record LayoutsFreed (s : List ℕ) (side : Side) (at : Layouts) (before after : ℕ) (at' : Layouts) : Type 0 where
  pub counted : before ≡ crossings (table_of s) at
  pub recounted : after ≡ crossings (table_of s) (free (table_of s) side at)
  pub afterwards : at' ≡ free (table_of s) side at

-- A side of an accepted record freed: the counts before and after, and the record afterwards.
pub record RecordFreed (s : List ℕ) (side : Side) (before after : ℕ) (s' : List ℕ) : Type 0 where
  pub counted : before ≡ shown_count s
  pub recounted : after ≡ crossings (table_of s) (free (table_of s) side (layouts_of s))
  pub afterwards : s' ≡ relaid s (free (table_of s) side (layouts_of s))

-- What a run under an allowance ends with, from the layouts `at`, which need not be the record's own.
abbrev pub ran_from : List ℕ → Layouts → ℕ → End Layouts
ran_from s at allowance = run (crossings (table_of s)) (free (table_of s)) allowance at

-- Its first and last count, its turns, whether it settled, and what the layouts become.
pub record LayoutsRan (s : List ℕ) (at : Layouts) (allowance first last turns settled : ℕ) (at' : Layouts) : Type 0 where
  pub first_count : first ≡ crossings (table_of s) at
  pub last_count : last ≡ crossings (table_of s) (ran_from s at allowance).last
  pub taken : turns ≡ (ran_from s at allowance).turns
  pub ended : settled ≡ bit (ran_from s at allowance).settled
  pub afterwards : at' ≡ (ran_from s at allowance).last

-- What a run under an allowance ends with.
abbrev pub ran_to : List ℕ → ℕ → End Layouts
ran_to s allowance = ran_from s (layouts_of s) allowance

-- A run of an accepted record: its first and last count, its turns, whether it settled, and the record afterwards.
pub record RecordRan (s : List ℕ) (allowance first last turns settled : ℕ) (s' : List ℕ) : Type 0 where
  pub first_count : first ≡ shown_count s
  pub last_count : last ≡ crossings (table_of s) (ran_to s allowance).last
  pub taken : turns ≡ (ran_to s allowance).turns
  pub ended : settled ≡ bit (ran_to s allowance).settled
  pub afterwards : s' ≡ relaid s (ran_to s allowance).last

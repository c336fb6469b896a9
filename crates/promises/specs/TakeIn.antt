-- The customer, in the seventh request for changes: "Given a record, a side and an order, answer the layout bytes that give this order
-- (pins kept), its count, and whether it is least for that side with the other standing. The order is refused exactly if no layout of that
-- tree gives the order and agrees with its pinned rows; 'least' is said exactly if no permitted choice crosses less. An order left by
-- freeing its side is accepted as least. The record isn't changed, so holds play no part. Refusals: 16, or 23 if the order is compatible
-- but goes against a pin; 23 stands right after 16." For every outcome of the call. That the record is not changed is how it is lent: to be
-- read.
use Rattle.std.specs.Prelude.{ℕ, ◌-◌, ◌≤◌, ◌<◌, ◌≡◌, ◌≢◌, ◌↔◌, ◌⊎◌, true, false, List, length, take, drop}
use Rattle.tanglegram.specs.Lists.{Each}
use Rattle.tanglegram.specs.Order.{may_change, byte, order, Choice, Compatible}
use Rattle.tanglegram.specs.declared.side.Side.{Side}
use Rattle.tanglegram.specs.Table.{layout, put, crossings}
use Rattle.record_fields.specs.Refused.{NumberAndRow}
use Rattle.record_fields.specs.Fields.{size_of}
use Rattle.record_fields.specs.Refusals.{refusal}
use Rattle.record_fields.specs.Meaning.{table_of, layouts_of, relaid}
use Rattle.record.specs.Calls.{SetsHold}
use Rattle.record_arrays.specs.Sides.{is_side, side_of}
use Rattle.record_arrays.specs.Rows.{row_byte}
use Rattle.record_arrays.specs.Shown.{shown_order, shown_count}
use Rattle.calls_show.specs.Answers.{Counted}
use Rattle.calls_show.specs.Calls.{Counts}
use Rattle.calls_turns.specs.Answers.{Freed}
use Rattle.calls_turns.specs.Calls.{Frees}
use Rattle.calls_take_in.specs.Answers.{TakenIn}
use Rattle.calls_take_in.specs.Calls.{TakesIn}

-- ---- which orders are taken in

-- xs has n entries, and its first n are a compatible order of that side's tree.
abbrev pub CompatibleOn : List ℕ → Side → List ℕ → Type 0
CompatibleOn s side xs = (size_of s ≤ length xs) × Compatible ((table_of s).tree side) (take (size_of s) xs)

-- The layout `any` gives the first n entries of xs as that side's order, and agrees with the rows that are pinned in the record.
pub record Permitted (s : List ℕ) (side : Side) (xs any : List ℕ) : Type 0 where
  pub enough : size_of s ≤ length xs
  pub gives : order any ((table_of s).tree side) ≡ take (size_of s) xs
  pub agrees : Choice (layout (layouts_of s) side) any

-- No layout of that side's tree does; some layout does.
abbrev pub NonePermitted : List ℕ → Side → List ℕ → Type 0
NonePermitted s side xs = (any : List ℕ) → Permitted s side xs any → ⊥

abbrev pub SomePermitted : List ℕ → Side → List ℕ → Type 0
SomePermitted s side xs = (any : List ℕ) × Permitted s side xs any

-- The number that is told of a side of an accepted record.
pub record NumberTold (s : List ℕ) (side : Side) (xs out : List ℕ) (number : ℕ) : Type 0 where
  -- 16 exactly if the first n entries are no compatible order.
  pub not_compatible : (number ≡ 16) ↔ (CompatibleOn s side xs → ⊥)
  -- "The order is refused exactly if no layout of that tree gives the order and agrees with its pinned rows": by 16 or 23.
  pub order_refused : ((number ≡ 16) ⊎ (number ≡ 23)) ↔ NonePermitted s side xs
  -- "23 if the order is compatible but goes against a pin."
  pub against_a_pin : (number ≡ 23) ↔ (CompatibleOn s side xs × NonePermitted s side xs)
  -- 14 comes last, and then there is nothing to refuse.
  pub no_room : (number ≡ 14) ↔ (SomePermitted s side xs × (length out < size_of s - 1))
  pub taken : (number ≡ 0) ↔ (SomePermitted s side xs × (size_of s - 1 ≤ length out))
  pub no_other : (number ≡ 16) ⊎ (number ≡ 23) ⊎ (number ≡ 14) ⊎ (number ≡ 0)

pub record Numbered (s : List ℕ) (side : ℕ) (xs out : List ℕ) (number : ℕ) : Type 0 where
  pub bad_side_first : is_side side ≡ false → number ≡ 13
  pub then_the_record : is_side side ≡ true → refusal s ≢ 0 → number ≡ refusal s
  pub then_the_order : is_side side ≡ true → refusal s ≡ 0 → NumberTold s (side_of side) xs out number
  -- So never 11, whatever is held.
  pub never_11 : number ≢ 11

-- ---- what is answered of an order that is taken in

-- The bytes that were answered.
abbrev pub answered : List ℕ → List ℕ → List ℕ
answered s out' = take (size_of s - 1) out'

-- A layout of the side: a byte from 0 to 3 for each row, pinned exactly where the record is.
pub record LaidOn (s : List ℕ) (side : Side) (any : List ℕ) : Type 0 where
  pub byte_for_row : length any ≡ size_of s - 1
  pub small : Each (λ x. x ≤ 3) any
  pub pins_kept : (row : ℕ) → 1 ≤ row → row < size_of s → may_change (byte any row) ≡ may_change (row_byte s side row)

pub record Answered (s : List ℕ) (side : Side) (xs out : List ℕ) (answer : TakenIn) (out' : List ℕ) : Type 0 where
  -- "the layout bytes that give this order (pins kept)": they do, a pinned row's byte is the record's own, and there are no others.
  pub laid : LaidOn s side (answered s out')
  pub gives : order (answered s out') ((table_of s).tree side) ≡ take (size_of s) xs
  pub pinned_stays : (row : ℕ) → may_change (row_byte s side row) ≡ false → byte (answered s out') row ≡ row_byte s side row
  pub only_these : (any : List ℕ) → LaidOn s side any → order any ((table_of s).tree side) ≡ take (size_of s) xs → any ≡ answered s out'
  -- The buffer is as found beyond.
  pub beyond : drop (size_of s - 1) out' ≡ drop (size_of s - 1) out
  -- "its count": what counting answers of the record with these bytes on that side, which is accepted.
  pub counted : (count : Counted) → Counts (relaid s (put side (answered s out') (layouts_of s))) count →
      (count.refusal.number ≡ 0) × (count.count ≡ answer.count)
  -- "'least' is said exactly if no permitted choice crosses less", the other side standing.
  pub least_exactly : (answer.least ≡ 1) ↔
      ((any : List ℕ) → Choice (layout (layouts_of s) side) any → answer.count ≤ crossings (table_of s) (put side any (layouts_of s)))
  pub one_or_zero : (answer.least ≡ 1) ⊎ (answer.least ≡ 0)

-- An order is accepted as least, with that count and these bytes.
pub record AcceptedAs (s : List ℕ) (count : ℕ) (bytes : List ℕ) (answer : TakenIn) (out' : List ℕ) : Type 0 where
  pub accepted : answer.refusal.number ≡ 0
  pub its_count : answer.count ≡ count
  pub its_bytes : answered s out' ≡ bytes

-- ---- all of it

pub record TakeIn : Type 0 where
  pub numbered : (s : List ℕ) (side : ℕ) (xs out : List ℕ) (answer : TakenIn) (out' : List ℕ) → TakesIn s side xs out answer out' →
      Numbered s side xs out answer.refusal.number
  pub answers : (s : List ℕ) (side : ℕ) (xs out : List ℕ) (answer : TakenIn) (out' : List ℕ) → TakesIn s side xs out answer out' →
      answer.refusal.number ≡ 0 → Answered s (side_of side) xs out answer out'
  -- Least is what freeing would leave: no order counts less, and it is least exactly if it counts as much.
  pub as_freed : (s : List ℕ) (side : ℕ) (xs out : List ℕ) (answer : TakenIn) (out' : List ℕ) → TakesIn s side xs out answer out' →
      answer.refusal.number ≡ 0 → (freed : Freed) (s' : List ℕ) → Frees s side freed s' → freed.refusal.number ≡ 0 →
      (freed.after ≤ answer.count) × ((answer.least ≡ 1) ↔ (answer.count ≡ freed.after))
  -- "An order left by freeing its side is accepted as least", with the count and the bytes that freeing left: of the record that was freed,
  -- and of the record that freeing left.
  pub freed_order : (s : List ℕ) (side : ℕ) (freed : Freed) (s' : List ℕ) → Frees s side freed s' → freed.refusal.number ≡ 0 →
      (xs : List ℕ) → take (size_of s) xs ≡ shown_order s' (side_of side) → (out : List ℕ) → size_of s - 1 ≤ length out →
      (answer : TakenIn) (out' : List ℕ) → (TakesIn s side xs out answer out' ⊎ TakesIn s' side xs out answer out') →
      AcceptedAs s freed.after (layout (layouts_of s') (side_of side)) answer out' × (answer.least ≡ 1)
  -- The present order is taken in as it stands.
  pub present_order : (s : List ℕ) (side : ℕ) → is_side side ≡ true → refusal s ≡ 0 → (xs : List ℕ) →
      take (size_of s) xs ≡ shown_order s (side_of side) → (out : List ℕ) → size_of s - 1 ≤ length out →
      (answer : TakenIn) (out' : List ℕ) → TakesIn s side xs out answer out' →
      AcceptedAs s (shown_count s) (layout (layouts_of s) (side_of side)) answer out'
  -- "holds play no part": with another hold the answer is the same, and what is in the buffer.
  pub hold_no_part : (s : List ℕ) (letter : ℕ) (set : NumberAndRow) (s' : List ℕ) → SetsHold s letter set s' → (side : ℕ) (xs out : List ℕ) →
      (answer answer₂ : TakenIn) (out' out₂ : List ℕ) → TakesIn s side xs out answer out' → TakesIn s' side xs out answer₂ out₂ →
      (answer₂ ≡ answer) × (out₂ ≡ out')

-- The sheet, which people act on: its `L` line is the order of the tubes. What whoever asks for its lines in their order reads is the
-- sheet's text (`calls_sheet/specs/Sheet`), for any bytes; how long that is at most; and what becomes of the record.
use Rattle.std.specs.Prelude.{ℕ, suc, ◌^◌, ◌≤◌, ◌<◌, ◌≡◌, ◌≢◌, List, [], ◌∷◌, ◌++◌, length, take, get_or}
use Rattle.tanglegram.specs.Lists.{Each}
use Rattle.newick.specs.Sentence.{value}
use Rattle.newick.specs.Writing as newick
use Rattle.work_text.specs.Decimal.{decimal}
use Rattle.record_fields.specs.Fields.{most_turns}
use Rattle.calls_turns.specs.Answers.{Ran}
use Rattle.calls_turns.specs.Calls.{Runs}
use Rattle.calls_sheet.specs.Sheet.{Sheet}
use Rattle.calls_sheet.specs.Calls.{SaysLine}
use Rattle.promises.specs.HeldStays.{Keeps}
use Rattle.promises.specs.PinnedStays.{PinsKept}

-- Lines k to 8 are asked for in their order, each of the bytes as the line before left them, and of each what the call answers is
-- written, so many of the memory's first bytes: what is written in all.
pub data Printed : List ℕ → ℕ → List ℕ → Type 0 where
  all : {s : List ℕ} → Printed s 9 []
  more : {s s' out out' rest : List ℕ} {k answer : ℕ} → k ≤ 8 → SaysLine s k out answer out' s' →
      Printed s' (suc k) rest → Printed s k (take answer out' ++ rest)

-- The text of a number of at most twenty digits, as all of 64 bits are: digits, which say the number (`value`, as in Newick text), and no
-- 0 in front but 0's own.
pub record Numbers : Type 0 where
  pub reads_back : (x : ℕ) → x < 10 ^ 20 → value (decimal x) ≡ x
  pub zero_alone : decimal 0 ≡ 48 ∷ []
  pub no_zero_first : (x : ℕ) → x < 10 ^ 20 → x ≢ 0 → get_or (decimal x) 0 0 ≢ 48
  pub each_digit : (x : ℕ) → x < 10 ^ 20 → Each (λ d. (48 ≤ d) × (d ≤ 57)) (decimal x)
  -- A leaf's number is spelled alike in a sheet and in Newick text.
  pub as_in_newick : (a : ℕ) → a < 1000 → newick.decimal a ≡ decimal a

pub record SheetPromise : Type 0 where
  -- The eight lines, asked for in their order, are the sheet; there is one sheet of any bytes, of at most 7,832 bytes.
  pub in_order : (s text : List ℕ) → Printed s 1 text → Sheet s text
  pub one_sheet : (s a b : List ℕ) → Sheet s a → Sheet s b → a ≡ b
  pub most : (s text : List ℕ) → Sheet s text → length text ≤ 7832
  -- Of input longer than any record it is enough to read 6,143 bytes, one more than the longest one has: their sheet is that of the whole.
  pub cut : (s text : List ℕ) → 6143 ≤ length s → Sheet (take 6143 s) text → Sheet s text
  -- Asking for a line has one outcome: the answer, the memory and the record.
  pub one_outcome : (s : List ℕ) (k : ℕ) (out : List ℕ) (a b : ℕ) (x y s₁ s₂ : List ℕ) →
      SaysLine s k out a x s₁ → SaysLine s k out b y s₂ → (a ≡ b) × (x ≡ y) × (s₁ ≡ s₂)
  -- Every line but the sixth keeps the record; the sixth leaves what a run with the largest allowance leaves. So no line moves a held side
  -- or turns a pinned row over.
  pub kept : (s : List ℕ) (k : ℕ) (out : List ℕ) (a : ℕ) (x s' : List ℕ) → SaysLine s k out a x s' → k ≢ 6 → s' ≡ s
  pub ran : (s out : List ℕ) (a : ℕ) (x s' : List ℕ) (answer : Ran) (s'' : List ℕ) →
      SaysLine s 6 out a x s' → Runs s most_turns answer s'' → s' ≡ s''
  pub held_stays : (s : List ℕ) (k : ℕ) (out : List ℕ) (a : ℕ) (x s' : List ℕ) → SaysLine s k out a x s' → Keeps s s'
  pub pinned_stays : (s : List ℕ) (k : ℕ) (out : List ℕ) (a : ℕ) (x s' : List ℕ) → SaysLine s k out a x s' → PinsKept s s'
  -- What a number's text is.
  pub numbers : Numbers

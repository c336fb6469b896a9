-- D and W of a record, in the code's own values: of two leaves or more; none, of one; or its refusal.
use Rattle.std.specs.Prelude.{ℕ, ◌≤◌, ◌≡◌, ◌≢◌, List, Option, Some, None, Result, Ok, Err}
use Rattle.tanglegram.specs.Entanglement.{worst}
use Rattle.record_fields.specs.declared.refusal.Refusal.{Refusal}
use Rattle.record_fields.specs.Fields.{size_of}
use Rattle.record_fields.specs.Refusals.{refusal}
use Rattle.record_fields.specs.Refused.{refused_row, number_of, row_of}
use Rattle.record_fields.specs.Told.{told_of}
use Rattle.record_arrays.specs.Shown.{shown_displacement}

abbrev pub DisplacedOf : List ℕ → Result (Option (ℕ × ℕ)) Refusal → Type 0
DisplacedOf s (Ok (Some (d, w))) =
    (refusal s ≡ 0) × (2 ≤ size_of s) × (d ≡ shown_displacement s) × (w ≡ worst (size_of s))
DisplacedOf s (Ok None) = (refusal s ≡ 0) × (size_of s ≡ 1)
DisplacedOf s (Err r) = (refusal s ≢ 0) × (refused_row (number_of r) (row_of r) ≡ told_of s (refusal s))

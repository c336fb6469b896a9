-- `read` answers the heading's refusal, the parts' refusal, or the hold and n of an accepted record.
use Rattle.std.proofs.Common.{refl, sym, ◌≡◌}
use Rattle.std.proofs.lemmas.Result.{err_from_is_err_and}
use Rattle.record_fields.specs.Refusals.{refusal}
use Rattle.record_fields.proofs.Refused.{refused-some, refuses}
use Rattle.record.proofs.Headings.{told-heading, heading-over, told-contents, none-refused}
use Rattle.record.proofs.Outcomes.{read_refused, read-accepted}
use Rattle.record.proofs.reading.read.Goals.{In_ok-contents}
use Rattle.record.proofs.reading.read.Goals as goal

pub returns-in_err-header-clause-reads : goal.returns-in_err-header-clause-reads
returns-in_err-header-clause-reads c =
    let p = err_from_is_err_and c.from_residual.result c.from_residual.ensures.1 in
    let t = told-heading _ c.in_err-header.ensures.tells (refused-some _) in
    rw (p.1, p.2) (read_refused _ refl (refuses _ t) t)

pub contents-requires : goal.contents-requires
contents-requires c = heading-over _ c.in_ok-header.ensures.tells c.in_ok-header.ensures.says.counts

pub returns-in_err-contents-clause-reads : goal.returns-in_err-contents-clause-reads
returns-in_err-contents-clause-reads c =
    let p = err_from_is_err_and c.from_residual-in_err-contents.result c.from_residual-in_err-contents.ensures.1 in
    let h = c.in_ok-header.ensures in
    let t = told-contents _ h.tells h.says.counts c.in_err-contents.ensures in
    rw (p.1, p.2) (read_refused _ refl (refuses _ t) t)

accepted : (c : In_ok-contents) → refusal c.args.s.now ≡ 0
accepted c = let h = c.in_ok-header.ensures in none-refused _ h.tells h.says.counts c.in_ok-contents.ensures

pub returns-clause-reads : goal.returns-clause-reads
returns-clause-reads c =
    let h = c.in_ok-header.ensures in
    read-accepted _ (sym (accepted c)) refl h.says.holds h.says.counts

pub returns-clause-over : goal.returns-clause-over
returns-clause-over c =
    let h = c.in_ok-header.ensures in
    (record { accepted = accepted c; sized = heading-over _ h.tells h.says.counts }, h.says.holds)

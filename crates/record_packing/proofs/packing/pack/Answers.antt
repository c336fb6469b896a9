-- `pack` answers the first refusal, or writes the record.
use Rattle.std.proofs.Common.{refl}
use Rattle.std.proofs.lemmas.Result.{err_from_is_err_and}
use Rattle.record_fields.proofs.Refused.{refused-some, refuses}
use Rattle.record_packing.proofs.Packed.{pack_shape, pack_contents, pack-no-room, pack-written}
use Rattle.record_packing.proofs.packing.pack.Goals as goal

pub returns-in_err-parts : goal.returns-in_err-parts
returns-in_err-parts c =
    let p = err_from_is_err_and c.from_residual.result c.from_residual.ensures.1 in
    let t = c.in_err-parts.ensures.tells in
    rw (p.1, p.2, t) (pack_shape _ _ refl (refuses _ t))

pub returns-in_err-test : goal.returns-in_err-test
returns-in_err-test c =
    let p = err_from_is_err_and c.from_residual-in_err-test.result c.from_residual-in_err-test.ensures.1 in
    let parts = c.in_ok-parts.ensures in
    rw (p.1, p.2) (pack_contents _ _ parts.tells (rw parts.keeps at c.in_err-test.ensures) (refused-some _))

pub returns-then-out-length_of : goal.returns-then-out-length_of
returns-then-out-length_of c =
    let parts = c.in_ok-parts.ensures in
    let n = c.length_of.ensures in
    pack-no-room _ _ parts.tells (rw parts.keeps at c.in_ok-test.ensures) (rw n at c.if-out-length_of.true)

pub returns : goal.returns
returns c =
    let parts = c.in_ok-parts.ensures in
    let n = c.length_of.ensures in
    pack-written _ _ parts.tells (rw parts.keeps at c.in_ok-test.ensures) (rw n at c.if-out-length_of.false)
    (rw parts.keeps at c.write.ensures)

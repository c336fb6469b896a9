-- `test_parts` answers by the first of the tests of the rows, the links and the layouts that is met.
use Rattle.record_fields.proofs.Heading.{passed, failed}
use Rattle.record_contents.proofs.Found.{rows-kept, told-left, told-right, told-links, told-layout, told-right-layout, told-none}
use Rattle.record_contents.proofs.testing.test_parts.Goals as goal

pub returns-in-Some : goal.returns-in-Some
returns-in-Some g c = λ h. told-left _ c.in-Some.ensures

pub returns-in-Some-bad_row : goal.returns-in-Some-bad_row
returns-in-Some-bad_row g c = λ h. told-right _ (rows-kept _ _ c.in_default.ensures) c.in-Some-bad_row.ensures

pub returns-then-not-one_to_one : goal.returns-then-not-one_to_one
returns-then-not-one_to_one g c = λ h.
    told-links _ (rows-kept _ _ c.in_default.ensures) (rows-kept _ _ c.in_default-bad_row.ensures)
    (failed c.one_to_one.ensures c.if-not-one_to_one.true)

pub returns-then-not-is_layout : goal.returns-then-not-is_layout
returns-then-not-is_layout g c = λ h.
    told-layout _ (rows-kept _ _ c.in_default.ensures) (rows-kept _ _ c.in_default-bad_row.ensures)
    (passed c.one_to_one.ensures c.if-not-one_to_one.false) (failed c.is_layout.ensures c.if-not-is_layout.true)

pub returns-then-not-is_layout-2 : goal.returns-then-not-is_layout-2
returns-then-not-is_layout-2 g c = λ h.
    told-right-layout _ (rows-kept _ _ c.in_default.ensures) (rows-kept _ _ c.in_default-bad_row.ensures)
    (passed c.one_to_one.ensures c.if-not-one_to_one.false) (passed c.is_layout.ensures c.if-not-is_layout.false)
    (failed c.is_layout-2.ensures c.if-not-is_layout-2.true)

pub returns : goal.returns
returns g c = λ h.
    told-none _ (rows-kept _ _ c.in_default.ensures) (rows-kept _ _ c.in_default-bad_row.ensures)
    (passed c.one_to_one.ensures c.if-not-one_to_one.false) (passed c.is_layout.ensures c.if-not-is_layout.false)
    (passed c.is_layout-2.ensures c.if-not-is_layout-2.false)

-- The tests say what their words mean.
use mathlib.Core.Path.{refl}
use borrow.Author.Tests.{eq-eqb}
use Rattle.work_trees.specs.Rows.{upper, lower}
use Rattle.work_tree_rule.specs.Rule.{bad_row}
use Rattle.work_tree_rule.proofs.Rule.{bad_row-none}
use Rattle.record_fields.specs.Refusals.{breaks_rule}
use Rattle.record_fields.proofs.Meaning.{rule_kept}
use Rattle.record_fields.proofs.SaysRow.{broken-lowest}
use Rattle.record_fields.proofs.Tests.{one_to_one_perm, layout-small, small-layout}
use Rattle.tanglegram.proofs.PinnedAs.{against_choice}
use Rattle.record_orders.proofs.Proposals.{is-order-compatible}
use Rattle.promises.specs.Tests as Tests

pub tests : Tests.Tests
unfolding breaks_rule
tests = record {
  tree_rule = λ n rows. (
    rule_kept n rows,
    λ rule. rw (eq-eqb (bad_row n (upper rows) (lower rows)) 0 ((bad_row-none n (upper rows) (lower rows)).1 rule)) refl,
  );
  lowest_broken = broken-lowest;
  one_to_one = one_to_one_perm;
  layout_bytes = λ bytes. (layout-small bytes, small-layout bytes);
  compatible = is-order-compatible;
  against_pins = against_choice;
}

-- `all_before` meets its contract: each place of the whole words is marked, and each before n in the next word.
use Rattle.std.proofs.Common.{ap, arith, get_or, eq-eqb, rules, sym, take, tests, ◌%◌, ◌*◌, ◌/◌, ◌∙◌, ◌≡◌}
use Rattle.std.proofs.lemmas.Iterator.{YieldsList-from_slice}
use Rattle.std.proofs.lemmas.Iterator.Search.{all_from_yields_List}
use Rattle.work_seen_places.specs.Seen.{all_before, low_ones}
use Rattle.work_seen_places.proofs.FullWords.{full_words, before_last, before_less}
use Rattle.work_seen_places.proofs.seen.Seen.all_before.Goals.{After-all}
use Rattle.work_seen_places.proofs.seen.Seen.all_before.Goals as goal

whole : (c : After-all) → c.all.result ≡ all_before c.args.self.now (64 * (c.args.n / 64))
whole c =
    let w = c.self.inside.words in
    let k = c.args.n / 64 in
    all_from_yields_List (λ x. low_ones x 64) _ _ c.all.result c.all.ensures.ran (YieldsList-from_slice (take k w) cc)
    (λ x b q k. search (rules, tests))
    ∙ full_words w k (omega arith)
    ∙ ap (λ w. all_before w (64 * k)) c.self.view_is

pub returns-then-j-eq0 : goal.returns-then-j-eq0
returns-then-j-eq0 c =
    let n = c.args.n in
    let all : 64 * (n / 64) ≡ n = omega arith in
    eq-eqb (n % 64) 0 c.if-j-eq0.true
    ∙ sym c.if-all.true ∙ whole (goal.at.returns-then-j-eq0 c).After-all ∙ ap (all_before c.args.self.now) all

pub returns-else-j-eq0 : goal.returns-else-j-eq0
returns-else-j-eq0 c =
    let n = c.args.n in
    let full = sym (whole (goal.at.returns-else-j-eq0 c).After-all) ∙ c.if-all.true in
    c.low_ones.ensures
    ∙ ap (λ w. low_ones (get_or w (n / 64) 0) (n % 64)) c.self.view_is
    ∙ sym (before_last c.args.self.now n full)

pub returns-else-all : goal.returns-else-all
returns-else-all c =
    let n = c.args.n in
    let missing = whole (goal.at.returns-else-all c).After-all in
    c.if-all.false ∙ sym (before_less c.args.self.now (64 * (n / 64)) n (omega arith) (sym missing ∙ c.if-all.false))

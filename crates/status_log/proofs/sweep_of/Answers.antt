-- `status_log::sweep_of` meets its contract: digits are a text, and `parse` reads it.
use mathlib.Core.Path.{◌≡◌, sym, ◌∙◌}
use mathlib.Core.Bool.{true}
use Rattle.std.proofs.Common.{rules, tests}
use Rattle.std.proofs.lemmas.Iterator.{YieldsList-from_slice}
use Rattle.std.proofs.lemmas.Iterator.Search.{all_from_yields_List}
use Rattle.std.specs.Char.{is_ascii_digit}
use Rattle.status_log.specs.Sweep.{digits}
use Rattle.status_log.proofs.Sweeps.{digits_all, none_by_digits, never_refused, same_text, parsed}
use Rattle.status_log.proofs.sweep_of.Goals as goal
use Rattle.status_log.proofs.sweep_of.Goals.{After-all}

all_digits : (c : After-all) → c.all.result ≡ digits c.args.text.now
all_digits c =
    all_from_yields_List is_ascii_digit _ _ c.all.result c.all.ensures.ran (YieldsList-from_slice c.args.text.now cc) (λ x b q k. search (rules, tests))
    ∙ digits_all c.args.text.now

pub returns-then-not-all : goal.returns-then-not-all
returns-then-not-all c = none_by_digits c.args.text.now (sym (all_digits (goal.at.returns-then-not-all c).After-all) ∙ c.if-not-all.true)

pub returns-in_err-ok : goal.returns-in_err-ok
returns-in_err-ok c =
    let all : digits c.args.text.now ≡ true = sym (all_digits (goal.at.returns-in_err-ok c).After-all) ∙ c.if-not-all.false in
    absurd (never_refused c.args.text.now all _ c.from_utf8.result c.from_utf8.ensures.cases (sym (c.in_err-ok.was) ∙ c.ok.ensures.value))

pub returns : goal.returns
returns c =
    let text = c.args.text.now in
    let all : digits text ≡ true = sym (all_digits (goal.at.returns c).After-all) ∙ c.if-not-all.false in
    let same = same_text text all _ c.from_utf8.result _ c.from_utf8.ensures.cases (sym (c.in_ok-ok.was) ∙ c.ok.ensures.value) in
    c.ok-2.ensures.value ∙ parsed text all c.parse.result (rw same at c.parse.ensures.value.0)

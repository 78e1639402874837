-- `record::Parts::of` meets its contract: at its last exits the pairs of bytes are the record's link words.
use mathlib.Core.Path.{◌≡◌}
use Rattle.std.proofs.Common.{rules}
use Rattle.cube.proofs.Refusals.{tests_in_turn, unless_refusal}
use Rattle.record.specs.Open.{open_refusal, links_in, status_in}
use Rattle.record.specs.Words.{words_in}
use Rattle.record.proofs.Refusals.{answering}
use Rattle.record.proofs.Words.{words_read}
use Rattle.record.proofs.Parts.of.Goals as goal

pub returns-in_err-unless-7 : goal.returns-in_err-unless-7
unfolding open_refusal
returns-in_err-unless-7 c =
    let read : words_in c.as_chunks.result.0.now ≡ links_in c.args.bytes.now = search (rules, words_read) in
    search (rules, tests_in_turn, unless_refusal, read)

pub returns : goal.returns
unfolding open_refusal status_in
returns c =
    let a = c.args in
    let read : words_in c.as_chunks.result.0.now ≡ links_in a.bytes.now = search (rules, words_read) in
    let none : open_refusal a.bytes.now a.status.now a.links.now ≡ 0 = search (rules, tests_in_turn, read) in
    answering a.bytes.now a.status.now a.links.now c.from-n.result c.split_at-2.result.0.now _ none (search rules) (search rules) read

use Rattle.std.proofs.Common.{◌≡◌, ◌∙◌, ap, arith, rules, sym}
use Rattle.acl_policy.specs.inner.WordReading.Numerals.{cut_in, number_in}
use Rattle.racl_options.proofs.ShardWordLemmas.{apart, same_in, word_cut, word_is, word_parts}
use Rattle.racl_options.proofs.shard_word.shard_named.Goals as goal

pub returns-in_default-clause-none : goal.returns-in_default-clause-none
returns-in_default-clause-none c number count is =
    apart (cut_in 47 c.as_bytes.result.now) _ c.in_default.ensures (ap (cut_in 47) c.as_bytes.ensures.value ∙ word_cut c.args.word.now number count is)

pub returns-in_default-number_of-clause-none : goal.returns-in_default-number_of-clause-none
returns-in_default-number_of-clause-none c number count is =
    let cut = ap (cut_in 47) (sym c.as_bytes.ensures.value) ∙ sym c.in-Some.ensures in
    apart (number_in c.in-Some.number.now) number c.in_default-number_of.ensures (word_parts c.args.word.now c.in-Some.number.now c.in-Some.count.now number count cut is).0

pub returns-in_default-number_of-2-clause-none : goal.returns-in_default-number_of-2-clause-none
returns-in_default-number_of-2-clause-none c number count is =
    let cut = ap (cut_in 47) (sym c.as_bytes.ensures.value) ∙ sym c.in-Some.ensures in
    apart (number_in c.in-Some.count.now) count c.in_default-number_of-2.ensures (word_parts c.args.word.now c.in-Some.number.now c.in-Some.count.now number count cut is).1

pub returns-then-number-lt1-clause-none : goal.returns-then-number-lt1-clause-none
returns-then-number-lt1-clause-none c number count is =
    let cut = ap (cut_in 47) (sym c.as_bytes.ensures.value) ∙ sym c.in-Some.ensures in
    let parts = word_parts c.args.word.now c.in-Some.number.now c.in-Some.count.now number count cut is in
    let one = same_in (number_in c.in-Some.number.now) c.in-Some-number_of.number number c.in-Some-number_of.ensures parts.0 in
    let some = is.some in
    omega (arith, one, some, c.if-number-lt1.true)

pub returns-then-count-number-clause-none : goal.returns-then-count-number-clause-none
returns-then-count-number-clause-none c number count is =
    let cut = ap (cut_in 47) (sym c.as_bytes.ensures.value) ∙ sym c.in-Some.ensures in
    let parts = word_parts c.args.word.now c.in-Some.number.now c.in-Some.count.now number count cut is in
    let one = same_in (number_in c.in-Some.number.now) c.in-Some-number_of.number number c.in-Some-number_of.ensures parts.0 in
    let two = same_in (number_in c.in-Some.count.now) c.in-Some-number_of-2.count count c.in-Some-number_of-2.ensures parts.1 in
    let among = is.among in
    omega (arith, one, two, among, c.if-count-number.true)

pub returns-then-count-gt-MOST_SHARDS-clause-none : goal.returns-then-count-gt-MOST_SHARDS-clause-none
returns-then-count-gt-MOST_SHARDS-clause-none c number count is =
    let cut = ap (cut_in 47) (sym c.as_bytes.ensures.value) ∙ sym c.in-Some.ensures in
    let parts = word_parts c.args.word.now c.in-Some.number.now c.in-Some.count.now number count cut is in
    let two = same_in (number_in c.in-Some.count.now) c.in-Some-number_of-2.count count c.in-Some-number_of-2.ensures parts.1 in
    let few = is.few in
    omega (arith, two, few, c.if-count-gt-MOST_SHARDS.true)

pub returns-clause-some : goal.returns-clause-some
returns-clause-some c =
    let cut = ap (cut_in 47) (sym c.as_bytes.ensures.value) ∙ sym c.in-Some.ensures in
    let number : c.from.result ≡ c.in-Some-number_of.number = search rules in
    let count : c.from-2.result ≡ c.in-Some-number_of-2.count = search rules in
    rw (number, count)
    (word_is c.args.word.now c.in-Some.number.now c.in-Some.count.now c.in-Some-number_of.number c.in-Some-number_of-2.count cut (sym c.in-Some-number_of.ensures)
    (sym c.in-Some-number_of-2.ensures) (omega (arith, c.if-number-lt1.false)) (omega (arith, c.if-count-number.false)) (omega (arith, c.if-count-gt-MOST_SHARDS.false)))

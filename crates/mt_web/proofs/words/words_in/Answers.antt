use Rattle.std.proofs.Common.{map, string_bytes}
use Rattle.mt_web.specs.Words.{words_in}
use Rattle.mt_web.proofs.Splitting.{next_word, no_words}
use Rattle.mt_web.proofs.words.words_in.Goals as goal

pub returns-in-Err : goal.returns-in-Err
returns-in-Err c =
    rw c.new.ensures.items (no_words (map string_bytes c.bytes.words.items) c.bytes.word.items c.as_slice.result.now c.bytes.rest.now c.in-Some.more.now c.in-Some.byte.now
    (words_in c.args.text.now) c.in-Some.ensures.cases.0 c.if-byte-eq0.true c.as_slice.ensures.value c.in-Err.ensures.cases.0 c.bytes.invariant)

pub bytes-preserved-in_ok-push-in-Ok : goal.bytes-preserved-in_ok-push-in-Ok
bytes-preserved-in_ok-push-in-Ok c =
    next_word string_bytes c.bytes.words.items c.push.new.self.items c.in_ok-from_str-in-Ok.field-0 c.bytes.word.items c.in-Ok.whole.now c.as_slice.result.now c.bytes.rest.now
    c.in-Some.more.now c.clear.new.self.items c.in-Some.byte.now (words_in c.args.text.now) c.in-Some.ensures.cases.0 c.if-byte-eq0.true c.as_slice.ensures.value
    c.in-Ok.ensures.cases.0 c.in-Ok.ensures.cases.1 c.in_ok-from_str-in-Ok.ensures.ok c.in_ok-push-in-Ok.ensures.items c.clear.ensures.items c.bytes.invariant

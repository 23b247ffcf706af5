use Rattle.mt_import.proofs.supplied.Assumed.text.Goals as goal

pub returns-clause-text : goal.returns-clause-text
returns-clause-text c =
    let two = rw (c.word_if-width.ensures, c.word_if-capabilities.ensures) at c.joined-two.ensures.text in
    let three = rw (c.word_if-fixed.ensures, two) at c.joined-three.ensures.text in
    let four = rw (c.word_if-masks.ensures, three) at c.joined-four.ensures.text in
    let five = rw (c.word_if-pairs.ensures, four) at c.joined-five.ensures.text in
    rw (c.word_if-pat.ensures, five) at c.joined.ensures.text

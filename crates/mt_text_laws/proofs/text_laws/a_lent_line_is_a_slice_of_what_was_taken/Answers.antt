use Rattle.mt_text_laws.proofs.Slices.{count_taken, lends_slices, moved_slice, slice_words}
use Rattle.mt_text_laws.proofs.text_laws.a_lent_line_is_a_slice_of_what_was_taken.Goals as goal

pub returns-clause-line : goal.returns-clause-line
returns-clause-line c = lends_slices

pub returns-clause-moved : goal.returns-clause-moved
returns-clause-moved c = moved_slice

pub returns-clause-words : goal.returns-clause-words
returns-clause-words c = slice_words

pub returns-clause-count : goal.returns-clause-count
returns-clause-count c = count_taken

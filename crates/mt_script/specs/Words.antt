-- The words of a line by their number, as mt_text defines them.
pub use Rattle.mt_text.specs.Words.{word_of, text_of, place_of}

-- What inteltool prints reads back.
use Rattle.std.proofs.Common.{◌≡◌, ◌^◌, ◌<◌, ℕ, true, List, None, Some, refl, subst, inl, inr, lit<}
use Rattle.std.specs.List.{AllByRecursion, list_all}
use Rattle.mt_text.proofs.Plain.{is_plain}
use Rattle.mt_regs.specs.RegisterFile.{RegisterFile}
use Rattle.mt_import.specs.declared.format.Format.TheVariants.{Inteltool}
use Rattle.mt_import.specs.Pieces.{shows_one}
use Rattle.mt_import.specs.Shown.{said_of, tells}
use Rattle.mt_import.specs.Supplied.{Supplied}
use Rattle.mt_import_laws.specs.Origins.{IsAmong}
use Rattle.mt_import_laws.specs.FirstLine.{takes}
use Rattle.mt_import_laws.specs.Printed.{Key, TableReadsBack, number_at, value_in}
use Rattle.mt_import_laws.specs.PrintedByInteltool.{Names, SuitsInteltool, inteltool_lines, line_of}
use Rattle.mt_import_laws.proofs.Among.{all_map}
use Rattle.mt_import_laws.proofs.InteltoolLines.{line_plain, register_said, told}
use Rattle.mt_import_laws.proofs.KeyLines.{keys_show, keys_stay, ShowsAlone, all_keys, among_all, has_line, in_file, lines_true, low}
use Rattle.mt_import_laws.proofs.Keys.{IsKey}
use Rattle.mt_import_laws.proofs.PrintedBack.{HasLine, IsInFile, fits, key_in_file, table_back}
use Rattle.mt_import_laws.proofs.Taken.{all_stay, takes_printed}
use Rattle.mt_import_laws.proofs.TableLines.{IsTrueSaid}
use Rattle.mt_import_laws.proofs.Whole.{any_bits}

module _ (names : Names) (file : RegisterFile) (supplied : Supplied) (suits : SuitsInteltool names file supplied) where
  within : (key : Key) → IsAmong key (all_keys file) → IsInFile file key
  within key among = in_file file key suits.is_file among

  are_keys : (key : Key) → IsAmong key (all_keys file) → IsKey key
  are_keys key among = key_in_file file key suits.is_file (within key among)

  all_fit : (key : Key) → IsAmong key (all_keys file) → value_in file key < 2 ^ 64
  all_fit key among = fits file key suits.is_file suits.has_words (within key among)

  said : (key : Key) → IsAmong key (all_keys file) → (number : ℕ)
      → (column : ℕ) × (said_of Inteltool number (line_of names file key) ≡ shows_one None (Some (number_at key)) (Some (value_in file key)) (record { line = number; column = column }))
  said key among = let named = suits.are_names key in register_said (number_at key) (value_in file key) (names key) named.0 named.1 (low key (are_keys key among)) (all_fit key among)

  shows : (key : Key) → IsAmong key (all_keys file) → ShowsAlone 0 file Inteltool key (line_of names file key)
  shows key among = record { processor = None; own = refl; place = λ number. record { line = number; column = (said key among number).0 }; said = λ number. (said key among number).1 }

  table_true : (line : List ℕ) → IsAmong line (inteltool_lines names file) → (number : ℕ) → IsTrueSaid file any_bits 0 (said_of Inteltool number line)
  table_true line (inl same) number = subst (λ l. IsTrueSaid file any_bits 0 (said_of Inteltool number l)) same refl
  table_true line (inr (inl same)) number = subst (λ l. IsTrueSaid file any_bits 0 (said_of Inteltool number l)) same refl
  table_true line (inr (inr later)) number = lines_true 0 file Inteltool (line_of names file) (all_keys file) are_keys all_fit shows line later number

  table_has : (key : Key) → IsInFile file key → HasLine Inteltool (inteltool_lines names file) key
  table_has key inside =
      let has = has_line 0 file Inteltool (line_of names file) (all_keys file) are_keys all_fit shows key (among_all file key suits.is_file inside) in
      record { line = has.line; among = inr (inr has.among); shows = has.shows }

  table_plain : AllByRecursion (λ line. list_all is_plain line ≡ true) (inteltool_lines names file)
  table_plain = (
    refl,
    (
      refl,
      all_map (λ line. list_all is_plain line ≡ true) (line_of names file) (all_keys file) (λ key among.
          line_plain (number_at key) (value_in file key) (names key) (suits.are_names key).0 (suits.are_names key).1),
    ),
  )

pub reads : (names : Names) (file : RegisterFile) (supplied : Supplied) → SuitsInteltool names file supplied → TableReadsBack Inteltool (inteltool_lines names file) supplied file
reads names file supplied suits =
    table_back file Inteltool (inteltool_lines names file) supplied suits.is_file suits.has_words suits.agrees (inl suits.width)
    (record { each = table_true names file supplied suits; all = λ key inside. inl (table_has names file supplied suits key inside) }) (table_plain names file supplied suits)

-- The first register's line tells the format, and the others are of it.
pub told_first : (names : Names) (file : RegisterFile) (supplied : Supplied) → SuitsInteltool names file supplied → takes (inteltool_lines names file) ≡ Some Inteltool
unfolding tells
told_first names file supplied suits =
    let named = suits.are_names None in
    let first = told 0xfe file.capabilities (names None) named.0 named.1 3 (lit< tt) (fits file None suits.is_file suits.has_words tt) in
    let show = keys_show 0 file Inteltool (line_of names file) (all_keys file) (are_keys names file supplied suits) (all_fit names file supplied suits) (shows names file supplied suits) None (inl refl) 3 in
    let stay = keys_stay 0 file Inteltool (line_of names file) (all_keys file) (are_keys names file supplied suits) (all_fit names file supplied suits) (shows names file supplied suits) in
    takes_printed Inteltool refl (inteltool_lines names file) 1 (inr (refl, refl, inr (refl, refl, inl (first, show.0, show.1, all_stay Inteltool 1 _ stay.1))))

-- Tables with a line for each of some registers.
use Rattle.std.proofs.Common.{◌≡◌, ◌^◌, ◌<◌, ℕ, List, ◌∷◌, map, replicate, Option, Some, None, refl, sym, ap, ◌∙◌, subst, inl, inr, arith, lit<, unwrap_or}
use Rattle.mt_text.specs.declared.place.Place.{Place}
use Rattle.mt_regs.specs.RegisterFile.{IsRegisterFile, RegisterFile}
use Rattle.mt_regs.specs.Registers.{IsWithin, writable}
use Rattle.mt_regs.proofs.ByNumber.{place_in_writable}
use Rattle.mt_import.specs.declared.format.Format.{Format}
use Rattle.mt_import.specs.declared.reading.LineSays.TheVariants.{Shows}
use Rattle.std.specs.List.{AllByRecursion}
use Rattle.mt_import.specs.Census.{shows_register}
use Rattle.mt_import.specs.Readings.{is_match}
use Rattle.mt_import.specs.Shown.{said_of}
use Rattle.mt_import.specs.Slot.{all_bits}
use Rattle.mt_import_laws.specs.Origins.{IsAmong}
use Rattle.mt_import_laws.specs.Printed.{Key, number_at, value_in}
use Rattle.mt_import_laws.proofs.Among.{all_map, among_at, among_map, each_among, map_among}
use Rattle.mt_import_laws.proofs.Keys.{IsKey, all_within, is_register_key, range_of}
use Rattle.mt_import_laws.proofs.PrintedBack.{HasLine, IsInFile}
use Rattle.mt_import_laws.proofs.TableLines.{IsTrueSaid, ShowsKey, tells_whole}
use Rattle.mt_import_laws.proofs.Taken.{ShowsIn, StaysIn, shows_stays}
use Rattle.mt_import_laws.proofs.Whole.{any_bits}

-- ---- the registers of a file

pub low : (key : Key) → IsKey key → number_at key < 0x1000
low None is = lit< tt
low (Some register) is = let range = range_of register is in omega (arith, range.1)

-- all of them
abbrev pub all_keys : RegisterFile → List Key
all_keys file = None ∷ map Some (writable file)

pub in_file : (file : RegisterFile) (key : Key) → IsRegisterFile file → IsAmong key (all_keys file) → IsInFile file key
in_file file key is (inl same) = subst (IsInFile file) same tt
in_file file key is (inr later) =
    let found = among_map Some (writable file) key later in
    subst (IsInFile file) (sym found.2) (each_among (IsWithin file) (writable file) found.0 (all_within file is) found.1)

pub among_all : (file : RegisterFile) (key : Key) → IsRegisterFile file → IsInFile file key → IsAmong key (all_keys file)
among_all file None is within = inl refl
among_all file (Some register) is within =
    let at = place_in_writable file register is within in
    inr (map_among Some (writable file) register (among_at (writable file) at.0 register at.1))

-- ---- their lines

-- A line shows all of a register of this processor, and nothing else.
pub record ShowsAlone (at : ℕ) (file : RegisterFile) (format : Format) (key : Key) (line : List ℕ) : Type 0 where
  pub processor : Option ℕ
  pub own : unwrap_or processor at ≡ at
  pub place : ℕ → Place
  pub said : (number : ℕ) → said_of format number line ≡ Shows processor (Some (record { number = number_at key; bits = all_bits; value = value_in file key; place = place number }) ∷ replicate 10 None)

-- such a line tells of the file
pub alone_true : (at : ℕ) (file : RegisterFile) (format : Format) (key : Key) (line : List ℕ) (number : ℕ) → IsKey key → value_in file key < 2 ^ 64 → ShowsAlone at file format key line → IsTrueSaid file any_bits at (said_of format number line)
alone_true at file format key line number is fits shows =
    rw (shows.said number) (shows.own, (inl (tells_whole file any_bits key (shows.place number) is refl fits), (tt, (tt, (tt, (tt, (tt, (tt, (tt, (tt, (tt, (tt, tt))))))))))))

pub alone_shows : (at : ℕ) (file : RegisterFile) (format : Format) (key : Key) (line : List ℕ) (number : ℕ) → ShowsAlone at file format key line → ShowsKey key all_bits (said_of format number line)
alone_shows at file format key line number shows = record {
  processor = shows.processor;
  shows = Some (record { number = number_at key; bits = all_bits; value = value_in file key; place = shows.place number }) ∷ replicate 10 None;
  shown = record { number = number_at key; bits = all_bits; value = value_in file key; place = shows.place number };
  said_is = shows.said number;
  among = inl refl;
  number = refl;
  bits = refl;
}

-- such a line shows a register
pub alone_shows_in : (at : ℕ) (file : RegisterFile) (format : Format) (key : Key) (line : List ℕ) → IsKey key → ShowsAlone at file format key line → ShowsIn format line
alone_shows_in at file format key line is shows number = (ap is_match (shows.said number), ap shows_register (shows.said number) ∙ rw (is_register_key key is) refl)

module _ (at : ℕ) (file : RegisterFile) (format : Format) (line_of : Key → List ℕ) (keys : List Key)
    (are_keys : (key : Key) → IsAmong key keys → IsKey key) (fit : (key : Key) → IsAmong key keys → value_in file key < 2 ^ 64)
    (shows : (key : Key) → IsAmong key keys → ShowsAlone at file format key (line_of key)) where
  pub keys_show : (key : Key) → IsAmong key keys → ShowsIn format (line_of key)
  keys_show key among = alone_shows_in at file format key (line_of key) (are_keys key among) (shows key among)

  -- These lines stay in the format.
  pub keys_stay : AllByRecursion (StaysIn format) (map line_of keys)
  keys_stay = all_map (StaysIn format) line_of keys (λ key among. shows_stays format (line_of key) (keys_show key among))

  pub lines_true : (line : List ℕ) → IsAmong line (map line_of keys) → (number : ℕ) → IsTrueSaid file any_bits at (said_of format number line)
  lines_true line among number =
      let found = among_map line_of keys line among in
      rw found.2 (alone_true at file format found.0 (line_of found.0) number (are_keys found.0 found.1) (fit found.0 found.1) (shows found.0 found.1))

  pub has_line : (key : Key) → IsAmong key keys → HasLine format (map line_of keys) key
  has_line key among = record {
    line = line_of key;
    among = map_among line_of keys key among;
    shows = λ number. alone_shows at file format key (line_of key) number (shows key among);
  }

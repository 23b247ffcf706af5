-- What coreboot displays reads back.
use Rattle.std.proofs.Common.{◌≡◌, ◌^◌, ◌<◌, Bool, true, List, ◌∷◌, ◌++◌, filter, map, Some, None, refl, sym, subst, inl, inr}
use Rattle.std.specs.Prelude.{◌⊎◌}
use Rattle.std.specs.List.{AllByRecursion, list_all}
use Rattle.mt_text.proofs.Plain.{is_plain}
use Rattle.mt_regs.specs.declared.registers.Register.{Register}
use Rattle.mt_regs.specs.declared.registers.Register.TheVariants.{PhysBase, PhysMask, FixedRange, Pat, DefaultType}
use Rattle.mt_regs.specs.RegisterFile.{RegisterFile}
use Rattle.mt_regs.specs.Registers.{IsWithin, writable}
use Rattle.mt_regs.proofs.ByNumber.{place_in_writable}
use Rattle.mt_import.specs.declared.format.Format.TheVariants.{Coreboot}
use Rattle.mt_import.specs.Supplied.{Supplied}
use Rattle.mt_import_laws.specs.FirstLine.{IsOfNoHost, takes}
use Rattle.mt_import_laws.proofs.Taken.{all_stay, takes_printed}
use Rattle.mt_import_laws.specs.Origins.{IsAmong}
use Rattle.mt_import_laws.specs.Printed.{Key, TableReadsBack, value_in}
use Rattle.mt_import_laws.specs.PrintedByCoreboot.{SuitsCoreboot, Tails, coreboot_lines, displayed, is_fixed, is_of_pair, line_of, name_of}
use Rattle.mt_import_laws.proofs.Among.{all_map, among_at, among_filter, among_join, among_map, each_among, filter_among, join_among_first, join_among_second, map_among}
use Rattle.mt_import_laws.proofs.CorebootLines.{IsNamed, is_displayed, line_plain, named, place, register_said, told}
use Rattle.mt_import_laws.proofs.KeyLines.{keys_show, keys_stay, ShowsAlone, has_line, lines_true}
use Rattle.mt_import_laws.proofs.Keys.{IsKey, all_within}
use Rattle.mt_import_laws.proofs.PrintedBack.{HasLine, IsGiven, IsInFile, fits, key_in_file, table_back}

shown_fixed : (register : Register) → is_fixed register ≡ true → is_displayed (Some register) ≡ true
shown_fixed (PhysBase n) is = refl
shown_fixed (PhysMask n) is = refl
shown_fixed (FixedRange place) is = refl
shown_fixed Pat is = cc is
shown_fixed DefaultType is = refl

shown_pair : (register : Register) → is_of_pair register ≡ true → is_displayed (Some register) ≡ true
shown_pair (PhysBase n) is = refl
shown_pair (PhysMask n) is = refl
shown_pair (FixedRange place) is = refl
shown_pair Pat is = cc is
shown_pair DefaultType is = refl

module _ (leveled : Bool) (tails : Tails) (file : RegisterFile) (supplied : Supplied) (suits : SuitsCoreboot tails file supplied) where
  abbrev parts : List Register
  parts = filter is_fixed (writable file) ++ filter is_of_pair (writable file)

  -- ---- which registers are displayed

  of_parts : (register : Register) → IsAmong register parts → IsWithin file register × (is_displayed (Some register) ≡ true)
  of_parts register among = elim (among_join (filter is_fixed (writable file)) (filter is_of_pair (writable file)) register among) [
    | inl first ↦
        let found = among_filter is_fixed (writable file) register first in
        (each_among (IsWithin file) (writable file) register (all_within file suits.is_file) found.0, shown_fixed register found.1)
    | inr second ↦
        let found = among_filter is_of_pair (writable file) register second in
        (each_among (IsWithin file) (writable file) register (all_within file suits.is_file) found.0, shown_pair register found.1)
  ]

  of_key : (key : Key) → IsAmong key (displayed file) → IsInFile file key × (is_displayed key ≡ true)
  of_key key (inl same) = subst (λ k. IsInFile file k × (is_displayed k ≡ true)) same (tt, refl)
  of_key key (inr (inl same)) = subst (λ k. IsInFile file k × (is_displayed k ≡ true)) same (tt, refl)
  of_key key (inr (inr later)) =
      let found = among_map Some parts key later in
      subst (λ k. IsInFile file k × (is_displayed k ≡ true)) (sym found.2) (of_parts found.0 found.1)

  in_writable : (register : Register) → IsWithin file register → IsAmong register (writable file)
  in_writable register within =
      let at = place_in_writable file register suits.is_file within in
      among_at (writable file) at.0 register at.1

  is_of_fixed : (register : Register) → IsWithin file register → is_fixed register ≡ true → IsAmong (Some register) (displayed file)
  is_of_fixed register within is =
      inr (inr (map_among Some parts register (join_among_first (filter is_fixed (writable file)) (filter is_of_pair (writable file)) register (filter_among is_fixed (writable file) register (in_writable register within) is))))

  is_of_pairs : (register : Register) → IsWithin file register → is_of_pair register ≡ true → IsAmong (Some register) (displayed file)
  is_of_pairs register within is =
      inr (inr (map_among Some parts register (join_among_second (filter is_fixed (writable file)) (filter is_of_pair (writable file)) register (filter_among is_of_pair (writable file) register (in_writable register within) is))))

  -- ---- their lines

  are_keys : (key : Key) → IsAmong key (displayed file) → IsKey key
  are_keys key among = key_in_file file key suits.is_file (of_key key among).0

  all_fit : (key : Key) → IsAmong key (displayed file) → value_in file key < 2 ^ 64
  all_fit key among = fits file key suits.is_file suits.has_words (of_key key among).0

  shows : (key : Key) → IsAmong key (displayed file) → ShowsAlone 0 file Coreboot key (line_of leveled tails file key)
  shows key among =
      let of = of_key key among in
      let name : IsNamed key (name_of file key) = named file key (are_keys key among) of.1 in
      let tail = suits.are_tails key in
      record {
        processor = None;
        own = refl;
        place = place key (value_in file key) (name_of file key) (tails key) name tail.0 tail.1 tail.2 leveled;
        said = λ number. register_said key (value_in file key) (name_of file key) (tails key) name tail.0 tail.1 tail.2 leveled number (all_fit key among);
      }

  line_at : (key : Key) → IsAmong key (displayed file) → HasLine Coreboot (coreboot_lines leveled tails file) key
  line_at = has_line 0 file Coreboot (line_of leveled tails file) (displayed file) are_keys all_fit shows

  each_key : (key : Key) → IsInFile file key → HasLine Coreboot (coreboot_lines leveled tails file) key ⊎ IsGiven supplied file key
  each_key None within = inl (line_at None (inl refl))
  each_key (Some (PhysBase n)) within = inl (line_at (Some (PhysBase n)) (is_of_pairs (PhysBase n) within refl))
  each_key (Some (PhysMask n)) within = inl (line_at (Some (PhysMask n)) (is_of_pairs (PhysMask n) within refl))
  each_key (Some (FixedRange place)) within = inl (line_at (Some (FixedRange place)) (is_of_fixed (FixedRange place) within refl))
  each_key (Some Pat) within = inr suits.pat
  each_key (Some DefaultType) within = inl (line_at (Some DefaultType) (inr (inl refl)))

  table_plain : AllByRecursion (λ line. list_all is_plain line ≡ true) (coreboot_lines leveled tails file)
  table_plain = all_map (λ line. list_all is_plain line ≡ true) (line_of leveled tails file) (displayed file) (λ key among.
      let of = of_key key among in
      let name : IsNamed key (name_of file key) = named file key (are_keys key among) of.1 in
      let tail = suits.are_tails key in
      line_plain key (value_in file key) (name_of file key) (tails key) name tail.0 tail.1 tail.2 leveled)

  pub reads : TableReadsBack Coreboot (coreboot_lines leveled tails file) supplied file
  reads =
      table_back file Coreboot (coreboot_lines leveled tails file) supplied suits.is_file suits.has_words suits.agrees (inl suits.width)
      (record {
        each = lines_true 0 file Coreboot (line_of leveled tails file) (displayed file) are_keys all_fit shows;
        all = each_key;
      }) table_plain

-- The line of 0FEH is the first, and tells the format. The others are of it.
pub told_first : (leveled : Bool) (tails : Tails) (file : RegisterFile) (supplied : Supplied) → SuitsCoreboot tails file supplied → IsOfNoHost (line_of leveled tails file None)
    → takes (coreboot_lines leveled tails file) ≡ Some Coreboot
told_first leveled tails file supplied suits host =
    let tail = suits.are_tails None in
    let first = told file.capabilities (tails None) tail.0 tail.1 tail.2 leveled 1 (fits file None suits.is_file suits.has_words tt) host in
    let show = keys_show 0 file Coreboot (line_of leveled tails file) (displayed file) (are_keys leveled tails file supplied suits) (all_fit leveled tails file supplied suits) (shows leveled tails file supplied suits) None (inl refl) 1 in
    let stay = keys_stay 0 file Coreboot (line_of leveled tails file) (displayed file) (are_keys leveled tails file supplied suits) (all_fit leveled tails file supplied suits) (shows leveled tails file supplied suits) in
    takes_printed Coreboot refl (coreboot_lines leveled tails file) 1 (inl (first, show.0, show.1, all_stay Coreboot 1 (map (line_of leveled tails file) (Some DefaultType ∷ map Some (filter is_fixed (writable file) ++ filter is_of_pair (writable file)))) stay.1))

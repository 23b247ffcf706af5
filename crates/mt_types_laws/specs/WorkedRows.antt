-- Register files of worked examples.
use Rattle.std.specs.Prelude.{ℕ, ◌∷◌, replicate}
use Rattle.mt_regs.specs.RegisterFile.{RegisterFile, blank_file}
use Rattle.mt_regs.specs.Registers.{with_value}
use Rattle.mt_regs.specs.declared.registers.Register.TheVariants.{PhysBase, PhysMask, FixedRange, DefaultType}

-- 36 bits, eight pairs, fixed ranges and WC
abbrev pub plain : RegisterFile
plain = blank_file 36 0x508

abbrev pub with_pair : RegisterFile → ℕ → ℕ → ℕ → RegisterFile
with_pair f n base mask = with_value (with_value f (PhysBase n) base) (PhysMask n) mask

-- WB from 0 to 4 GB, and UC above
abbrev pub four_gigabytes : RegisterFile
four_gigabytes = with_value (with_pair plain 0 6 0xf00000800) DefaultType 0x800

-- WC from 3 to 3.25 GB over it
abbrev pub clash : RegisterFile
clash = with_pair four_gigabytes 1 0xc0000001 0xff0000800

-- the fixed range of video memory as WC
abbrev pub video_memory : RegisterFile
video_memory = with_value (with_value four_gigabytes (FixedRange 2) 0x0101010101010101) DefaultType 0xc00

-- an ordinary PC with 8 GB
abbrev pub ordinary : RegisterFile
ordinary = record {
  width = 36;
  capabilities = 0xd08;
  pairs = (6, 0xf00000800) ∷ (0x100000006, 0xf00000800) ∷ (0x200000006, 0xfe0000800) ∷ (0xe0000000, 0xfe0000800) ∷ replicate 4 (0, 0);
  fixed = 0x0606060606060606 ∷ 0x0606060606060606 ∷ 0 ∷ replicate 8 0x0505050505050505;
  pat = 0x0007040600070406;
  default_type = 0xc00;
}

-- The lines of a text for measurements behind its dump: each is a command that may stand there.
use Rattle.std.proofs.Common.{◌≡◌, ◌∙◌, ap, sym, refl, arith, ℕ, ◌+◌, ◌%◌, ◌^◌, ◌≤◌, ◌<◌, ◌==◌, nat_lt, Bool, true, false, List, [], ◌∷◌, ◌++◌, codes, decimal, length, length-append, append_assoc, Ok}
use Rattle.std.specs.List.{list_all}
use Rattle.std.proofs.lemmas.Bool.{and_parts}
use Rattle.std.proofs.lemmas.Bool.Decides.{nat_tests}
use Rattle.mt_text.specs.Text.{words_from}
use Rattle.mt_text.proofs.Plain.{is_plain, plain_content}
use Rattle.mt_output.specs.Lines.{line}
use Rattle.mt_script.specs.Commands.{command_of, outside}
use Rattle.mt_script.specs.declared.command.Command.{Command}
use Rattle.mt_script.specs.declared.command.Command.TheVariants as command
use Rattle.mt_script.specs.declared.command.Ask.TheVariants as ask
use Rattle.mt_answers.specs.Generator.{hexadecimal}
use Rattle.mt_cli_laws.proofs.Made.Digits.{IsProcessor, IsWord, hexadecimal_read, hexadecimal_word, processor}
use Rattle.mt_cli_laws.proofs.Made.Dump.{ready}
use Rattle.mt_cli_laws.proofs.Made.Words.{word_first, word_last}

-- ---- lines of plain words

all_plain : (a b : List ℕ) → list_all is_plain a ≡ true → list_all is_plain b ≡ true → list_all is_plain (a ++ b) ≡ true
all_plain [] b none later = later
all_plain (byte ∷ bytes) b all later = let parts = and_parts (is_plain byte) (list_all is_plain bytes) all in rw parts.0 (all_plain bytes b parts.1 later)

-- A line that is this command, whatever its number is.
pub record IsCommand (body : List ℕ) (c : Command) : Type 0 where
  pub plain : list_all is_plain body ≡ true
  pub reads : (number : ℕ) → command_of ready number body ≡ Ok c

-- by its words
by_words : (body : List ℕ) (words : List (ℕ × List ℕ)) (c : Command) → list_all is_plain body ≡ true → length body ≤ 4096 → words_from 0 body ≡ words → ((number : ℕ) → outside ready number words ≡ Ok c) → IsCommand body c
by_words body words c plain short are reads = record {
  plain = plain;
  reads = λ number.
      let few : nat_lt 4096 (length body) ≡ false = grind (arith, nat_tests, short) in
      rw few (ap (outside ready number) (ap (words_from 0) (plain_content body plain) ∙ are) ∙ reads number);
}

-- ---- loads and stores

abbrev pub load_body : ℕ → ℕ → List ℕ
load_body cpu address = codes "load " ++ (decimal cpu ++ 32 ∷ hexadecimal address)

abbrev pub store_body : ℕ → ℕ → ℕ → List ℕ
store_body cpu address value = codes "store " ++ (decimal cpu ++ 32 ∷ (hexadecimal address ++ 32 ∷ hexadecimal value))

abbrev pub load_line : ℕ → ℕ → List ℕ
load_line cpu address = codes "load " ++ decimal cpu ++ codes " " ++ hexadecimal address ++ codes "\n"

abbrev pub store_line : ℕ → ℕ → ℕ → List ℕ
store_line cpu address value = codes "store " ++ decimal cpu ++ codes " " ++ hexadecimal address ++ codes " " ++ hexadecimal value ++ codes "\n"

pub load_is_line : (cpu address : ℕ) → load_line cpu address ≡ line (load_body cpu address)
load_is_line cpu address = ap (λ l. codes "load " ++ l) (ap (λ l. l ++ 10 ∷ []) (append_assoc (decimal cpu) (32 ∷ []) (hexadecimal address)))

pub store_is_line : (cpu address value : ℕ) → store_line cpu address value ≡ line (store_body cpu address value)
store_is_line cpu address value =
    ap (λ l. codes "store " ++ (l ++ 10 ∷ []))
    (ap (λ l. (l ++ 32 ∷ []) ++ hexadecimal value) (append_assoc (decimal cpu) (32 ∷ []) (hexadecimal address))
    ∙ append_assoc (decimal cpu ++ 32 ∷ hexadecimal address) (32 ∷ []) (hexadecimal value)
    ∙ append_assoc (decimal cpu) (32 ∷ hexadecimal address) (32 ∷ hexadecimal value))

-- a number with a blank before it
blank_plain : (word : List ℕ) → IsWord word → list_all is_plain (32 ∷ word) ≡ true
blank_plain word is = is.plain

module _ (cpu address : ℕ) (low : cpu < 16) (even : (address % 8 == 0) ≡ true) (near : nat_lt address (2 ^ 48) ≡ true) (small : address < 2 ^ 64) where
  p : IsProcessor cpu
  p = processor cpu low

  a : IsWord (hexadecimal address)
  a = hexadecimal_word address small

  pub load_reads : IsCommand (load_body cpu address) (command.Ask cpu (ask.Load address))
  load_reads =
      by_words (load_body cpu address) ((0, codes "load") ∷ (5, decimal cpu) ∷ (5 + length (decimal cpu) + 1, hexadecimal address) ∷ []) (command.Ask cpu (ask.Load address))
      (all_plain (decimal cpu) (32 ∷ hexadecimal address) p.word.plain a.plain)
      (omega (arith, length-append (decimal cpu) (32 ∷ hexadecimal address), p.word.few, a.few))
      (ap (λ ws. let word : ℕ × List ℕ = (0, codes "load") in word ∷ ws)
      (word_first 5 (decimal cpu) (hexadecimal address) p.word.some p.word.all
      ∙ ap (λ ws. let word : ℕ × List ℕ = (5, decimal cpu) in word ∷ ws) (word_last (5 + length (decimal cpu) + 1) (hexadecimal address) a.some a.all)))
      (λ number. rw (p.read, p.below, hexadecimal_read address small, even, near) refl)

  pub store_reads : (value : ℕ) → value < 2 ^ 64 → IsCommand (store_body cpu address value) (command.Ask cpu (ask.Store address value))
  store_reads value fits =
      let v : IsWord (hexadecimal value) = hexadecimal_word value fits in
      let q : ℕ = 6 + length (decimal cpu) + 1 in
      by_words (store_body cpu address value) ((0, codes "store") ∷ (6, decimal cpu) ∷ (q, hexadecimal address) ∷ (q + length (hexadecimal address) + 1, hexadecimal value) ∷ []) (command.Ask cpu (ask.Store address value))
      (all_plain (decimal cpu) (32 ∷ (hexadecimal address ++ 32 ∷ hexadecimal value)) p.word.plain (all_plain (hexadecimal address) (32 ∷ hexadecimal value) a.plain v.plain))
      (omega (arith, length-append (decimal cpu) (32 ∷ (hexadecimal address ++ 32 ∷ hexadecimal value)), length-append (hexadecimal address) (32 ∷ hexadecimal value), p.word.few, a.few, v.few))
      (ap (λ ws. let word : ℕ × List ℕ = (0, codes "store") in word ∷ ws)
      (word_first 6 (decimal cpu) (hexadecimal address ++ 32 ∷ hexadecimal value) p.word.some p.word.all
      ∙ ap (λ ws. let word : ℕ × List ℕ = (6, decimal cpu) in word ∷ ws)
      (word_first q (hexadecimal address) (hexadecimal value) a.some a.all
      ∙ ap (λ ws. let word : ℕ × List ℕ = (q, hexadecimal address) in word ∷ ws) (word_last (q + length (hexadecimal address) + 1) (hexadecimal value) v.some v.all))))
      (λ number. rw (p.read, p.below, hexadecimal_read address small, even, near, hexadecimal_read value fits) refl)

-- ---- mappings and PGE

-- what stands behind the two addresses of a mapping
abbrev pub map_body : ℕ → ℕ → List ℕ → List ℕ
map_body cpu address tail = codes "map " ++ (decimal cpu ++ 32 ∷ (hexadecimal address ++ 32 ∷ (hexadecimal address ++ 32 ∷ tail)))

map_is_line : (cpu address : ℕ) (tail : List ℕ)
    → codes "map " ++ decimal cpu ++ codes " " ++ hexadecimal address ++ codes " " ++ hexadecimal address ++ (32 ∷ (tail ++ 10 ∷ [])) ≡ line (map_body cpu address tail)
map_is_line cpu address tail =
    let d : List ℕ = decimal cpu in
    let h : List ℕ = hexadecimal address in
    let e : List ℕ = 32 ∷ (tail ++ 10 ∷ []) in
    ap (λ l. codes "map " ++ l)
    (append_assoc (((d ++ 32 ∷ []) ++ h) ++ 32 ∷ []) h e
    ∙ append_assoc ((d ++ 32 ∷ []) ++ h) (32 ∷ []) (h ++ e)
    ∙ append_assoc (d ++ 32 ∷ []) h (32 ∷ (h ++ e))
    ∙ append_assoc d (32 ∷ []) (h ++ 32 ∷ (h ++ e))
    ∙ sym (append_assoc d (32 ∷ (h ++ 32 ∷ (h ++ 32 ∷ tail))) (10 ∷ [])
    ∙ ap (λ l. d ++ 32 ∷ l) (append_assoc h (32 ∷ (h ++ 32 ∷ tail)) (10 ∷ []) ∙ ap (λ l. h ++ 32 ∷ l) (append_assoc h (32 ∷ tail) (10 ∷ [])))))

-- a page that is mapped to itself
abbrev pub mapped : ℕ → ℕ → Bool → Command
mapped cpu address global = command.Ask cpu (ask.Map (record { address = address; physical = address; index = 0; global = global }))

abbrev pub local_line : ℕ → ℕ → List ℕ
local_line cpu address = codes "map " ++ decimal cpu ++ codes " " ++ hexadecimal address ++ codes " " ++ hexadecimal address ++ codes " 0\n"

abbrev pub global_line : ℕ → ℕ → List ℕ
global_line cpu address = codes "map " ++ decimal cpu ++ codes " " ++ hexadecimal address ++ codes " " ++ hexadecimal address ++ codes " 0 global\n"

pub local_is_line : (cpu address : ℕ) → local_line cpu address ≡ line (map_body cpu address (codes "0"))
local_is_line cpu address = map_is_line cpu address (codes "0")

pub global_is_line : (cpu address : ℕ) → global_line cpu address ≡ line (map_body cpu address (codes "0 global"))
global_is_line cpu address = map_is_line cpu address (codes "0 global")

module _ (cpu address : ℕ) (low : cpu < 16) (page : (address % 4096 == 0) ≡ true) (near : nat_lt address (2 ^ 48) ≡ true) (within : nat_lt address (2 ^ 36) ≡ true) (small : address < 2 ^ 64) where
  pr : IsProcessor cpu
  pr = processor cpu low

  ad : IsWord (hexadecimal address)
  ad = hexadecimal_word address small

  q : ℕ
  q = 4 + length (decimal cpu) + 1

  map_words : (tail : List ℕ) → words_from 0 (map_body cpu address tail)
      ≡ (0, codes "map") ∷ (4, decimal cpu) ∷ (q, hexadecimal address) ∷ (q + length (hexadecimal address) + 1, hexadecimal address)
      ∷ words_from (q + length (hexadecimal address) + 1 + length (hexadecimal address) + 1) tail
  unfolding q
  map_words tail =
      ap (λ ws. let word : ℕ × List ℕ = (0, codes "map") in word ∷ ws)
      (word_first 4 (decimal cpu) (hexadecimal address ++ 32 ∷ (hexadecimal address ++ 32 ∷ tail)) pr.word.some pr.word.all
      ∙ ap (λ ws. let word : ℕ × List ℕ = (4, decimal cpu) in word ∷ ws)
      (word_first q (hexadecimal address) (hexadecimal address ++ 32 ∷ tail) ad.some ad.all
      ∙ ap (λ ws. let word : ℕ × List ℕ = (q, hexadecimal address) in word ∷ ws) (word_first (q + length (hexadecimal address) + 1) (hexadecimal address) tail ad.some ad.all)))

  map_plain : (tail : List ℕ) → list_all is_plain tail ≡ true → list_all is_plain (map_body cpu address tail) ≡ true
  map_plain tail plain =
      all_plain (decimal cpu) (32 ∷ (hexadecimal address ++ 32 ∷ (hexadecimal address ++ 32 ∷ tail))) pr.word.plain
      (all_plain (hexadecimal address) (32 ∷ (hexadecimal address ++ 32 ∷ tail)) ad.plain (all_plain (hexadecimal address) (32 ∷ tail) ad.plain plain))

  map_short : (tail : List ℕ) → length tail ≤ 20 → length (map_body cpu address tail) ≤ 4096
  map_short tail short =
      omega (
        arith,
        length-append (decimal cpu) (32 ∷ (hexadecimal address ++ 32 ∷ (hexadecimal address ++ 32 ∷ tail))),
        length-append (hexadecimal address) (32 ∷ (hexadecimal address ++ 32 ∷ tail)),
        length-append (hexadecimal address) (32 ∷ tail),
        pr.word.few,
        ad.few,
        short,
      )

  pub local_reads : IsCommand (map_body cpu address (codes "0")) (mapped cpu address false)
  local_reads =
      by_words (map_body cpu address (codes "0")) _ (mapped cpu address false) (map_plain (codes "0") refl) (map_short (codes "0") (omega arith)) (map_words (codes "0"))
      (λ number. rw (pr.read, pr.below, hexadecimal_read address small, page, near, within) refl)

  pub global_reads : IsCommand (map_body cpu address (codes "0 global")) (mapped cpu address true)
  global_reads =
      by_words (map_body cpu address (codes "0 global")) _ (mapped cpu address true) (map_plain (codes "0 global") refl) (map_short (codes "0 global") (omega arith)) (map_words (codes "0 global"))
      (λ number. rw (pr.read, pr.below, hexadecimal_read address small, page, near, within) refl)

abbrev pub pge_body : ℕ → List ℕ
pge_body cpu = codes "pge " ++ (decimal cpu ++ 32 ∷ codes "on")

pub pge_is_line : (cpu : ℕ) → codes "pge " ++ decimal cpu ++ codes " on\n" ≡ line (pge_body cpu)
pge_is_line cpu = ap (λ l. codes "pge " ++ l) (sym (append_assoc (decimal cpu) (32 ∷ codes "on") (10 ∷ [])))

pub pge_reads : (cpu : ℕ) → cpu < 16 → IsCommand (pge_body cpu) (command.Ask cpu (ask.Pge true))
pge_reads cpu low =
    let p : IsProcessor cpu = processor cpu low in
    by_words (pge_body cpu) ((0, codes "pge") ∷ (4, decimal cpu) ∷ (4 + length (decimal cpu) + 1, codes "on") ∷ []) (command.Ask cpu (ask.Pge true))
    (all_plain (decimal cpu) (32 ∷ codes "on") p.word.plain refl)
    (omega (arith, length-append (decimal cpu) (32 ∷ codes "on"), p.word.few))
    (ap (λ ws. let word : ℕ × List ℕ = (0, codes "pge") in word ∷ ws) (word_first 4 (decimal cpu) (codes "on") p.word.some p.word.all))
    (λ number. rw (p.read, p.below) refl)

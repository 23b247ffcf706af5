-- A text for measurements has no offence.
use Rattle.std.proofs.Common.{◌≡◌, ◌∙◌, ap, sym, refl, subst, inl, inr, arith, ℕ, zero, suc, ◌+◌, ◌*◌, ◌%◌, ◌^◌, ◌≤◌, ◌<◌, ◌==◌, nat_lt, true, false, List, [], ◌∷◌, ◌++◌, codes, append_assoc, append-nil, None}
use Rattle.std.specs.Fmt.{digits}
use Rattle.std.proofs.lemmas.Bool.{cases_Bool}
use Rattle.std.proofs.lemmas.Bool.Decides.{nat_tests}
use Rattle.mt_text.specs.Text.{end_of, lines_of}
use Rattle.mt_text.specs.declared.place.Place.{Place}
use Rattle.mt_text.proofs.Plain.{lines_of-line}
use Rattle.mt_ports.specs.declared.status.Status.TheVariants.{Done}
use Rattle.mt_output.specs.Lines.{line}
use Rattle.mt_script.specs.Situation.{at_start}
use Rattle.mt_script.specs.Accept.{accepted}
use Rattle.mt_script.specs.Head.{step_of_answer}
use Rattle.mt_script.specs.Script.{offence_after, offence_in, script_offence}
use Rattle.mt_script.specs.declared.command.Command.{Command}
use Rattle.mt_script.specs.declared.command.Command.TheVariants as command
use Rattle.mt_script.specs.declared.command.Ask.TheVariants as ask
use Rattle.mt_replay.specs.Statuses.{ShowsDump}
use Rattle.mt_replay.specs.Transcript.{transcript}
use Rattle.mt_replay.proofs.Refusals.Outcomes.{accepted_unless_refused, done_where_no_offence}
use Rattle.mt_answers.specs.Generator.{access_line, accesses, after_accesses, behind_access, drawn, head_text, make_text, map_line, maps, pge_line, processor_lines, processors, round_text, round_value, rounds, stepped}
use Rattle.mt_cli_laws.proofs.Made.Dump.{made_accepted, made_dump, made_shown, ready}
use Rattle.mt_cli_laws.proofs.Made.Lines.{IsCommand, global_is_line, global_reads, load_body, load_is_line, load_reads, local_is_line, local_reads, map_body, mapped, pge_body, pge_is_line, pge_reads, store_body, store_is_line, store_reads}

-- ---- texts of commands

-- a text of commands, each outside the sections or in its own: what stands behind it is read as if it weren't there
abbrev IsGood : List ℕ → Type 0
IsGood text = (end : Place) (number : ℕ) (rest : List ℕ) → (later : ℕ) × (offence_in end number (lines_of (text ++ rest)) ready [] ≡ offence_in end later (lines_of rest) ready [])

none_good : IsGood []
none_good end number rest = (number, refl)

both_good : (a b : List ℕ) → IsGood a → IsGood b → IsGood (a ++ b)
both_good a b first second end number rest =
    let (middle, one) = first end number (b ++ rest) in
    let (later, two) = second end middle rest in
    (later, ap (λ l. offence_in end number (lines_of l) ready []) (append_assoc a b rest) ∙ one ∙ two)

line_good : (body : List ℕ) (c : Command) → IsCommand body c → accepted ready c ≡ ready → IsGood (line body)
line_good body c is stays end number rest = (
  number + 1,
  ap (λ l. offence_in end number (lines_of l) ready []) (append_assoc body (10 ∷ []) rest)
      ∙ ap (λ ls. offence_in end number ls ready []) (lines_of-line body rest is.plain)
      ∙ ap (λ answer. offence_after ready (offence_in end (number + 1) (lines_of rest)) (step_of_answer ready [] number body answer)) (is.reads number)
      ∙ ap (λ now. offence_in end (number + 1) (lines_of rest) now []) stays,
)

-- ---- accesses

access_good : (x : ℕ) → IsGood (access_line x)
access_good x =
    let cpu : ℕ = drawn (stepped x) 16 in
    let value : ℕ = behind_access x in
    let address : ℕ = 8 * drawn value 32768 in
    let low : cpu < 16 = omega arith in
    let even : (address % 8 == 0) ≡ true = grind (arith, nat_tests) in
    let near : nat_lt address (2 ^ 48) ≡ true = grind (arith, nat_tests) in
    let small : address < 2 ^ 64 = omega arith in
    let fits : value < 2 ^ 64 = omega arith in
    elim (cases_Bool (nat_lt (drawn (stepped (stepped x)) 4) 2)) [
      | inl load ↦ rw load (subst IsGood (sym (load_is_line cpu address)) (line_good (load_body cpu address) (command.Ask cpu (ask.Load address)) (load_reads cpu address low even near small) refl))
      | inr store ↦ rw store (subst IsGood (sym (store_is_line cpu address value)) (line_good (store_body cpu address value) (command.Ask cpu (ask.Store address value)) (store_reads cpu address low even near small value fits) refl))
    ]

accesses_good : (count x : ℕ) → IsGood (accesses count x)
unfolding accesses
accesses_good zero x = none_good
accesses_good (suc more) x = both_good (access_line x) (accesses more (behind_access x)) (access_good x) (accesses_good more (behind_access x))

-- ---- rounds

update_good : (round : ℕ) → IsGood (codes "update\n" ++ round_value round ++ codes "end\nreport\n")
update_good round = elim (cases_Bool (round % 4 == 0)) [
  | inl first ↦ rw first (λ end number rest. (number + 1 + 1 + 1 + 1, refl))
  | inr later ↦ rw later (elim (cases_Bool (round % 4 == 1)) [
    | inl second ↦ rw second (λ end number rest. (number + 1 + 1 + 1 + 1, refl))
    | inr last ↦ rw last (elim (cases_Bool (round % 4 == 2)) [
      | inl third ↦ rw third (λ end number rest. (number + 1 + 1 + 1 + 1, refl))
      | inr fourth ↦ rw fourth (λ end number rest. (number + 1 + 1 + 1 + 1, refl))
    ])
  ])
]

round_good : (round x : ℕ) → IsGood (round_text round x)
round_good round x =
    subst IsGood
    (sym (append_assoc (accesses 512 x ++ codes "update\n") (round_value round) (codes "end\nreport\n") ∙ append_assoc (accesses 512 x) (codes "update\n") (round_value round ++ codes "end\nreport\n")
    ∙ ap (λ l. accesses 512 x ++ l) (sym (append_assoc (codes "update\n") (round_value round) (codes "end\nreport\n")))))
    (both_good (accesses 512 x) (codes "update\n" ++ round_value round ++ codes "end\nreport\n") (accesses_good 512 x) (update_good round))

rounds_good : (count round x : ℕ) → IsGood (rounds count round x)
unfolding rounds
rounds_good zero round x = none_good
rounds_good (suc more) round x = both_good (round_text round x) (rounds more (round + 1) (after_accesses 512 x)) (round_good round x) (rounds_good more (round + 1) (after_accesses 512 x))

-- ---- processors

map_good : (cpu page : ℕ) → cpu < 16 → page < 64 → IsGood (map_line cpu page)
map_good cpu page low within =
    let address : ℕ = 4096 * page in
    let whole : (address % 4096 == 0) ≡ true = grind (arith, nat_tests) in
    let near : nat_lt address (2 ^ 48) ≡ true = grind (arith, nat_tests, within) in
    let there : nat_lt address (2 ^ 36) ≡ true = grind (arith, nat_tests, within) in
    let small : address < 2 ^ 64 = omega (arith, within) in
    elim (cases_Bool (page % 2 == 0)) [
      | inl even ↦ rw even (subst IsGood (sym (global_is_line cpu address)) (line_good (map_body cpu address (codes "0 global")) (mapped cpu address true) (global_reads cpu address low whole near there small) refl))
      | inr odd ↦ rw odd (subst IsGood (sym (local_is_line cpu address)) (line_good (map_body cpu address (codes "0")) (mapped cpu address false) (local_reads cpu address low whole near there small) refl))
    ]

maps_good : (count cpu page : ℕ) → cpu < 16 → page + count ≤ 64 → IsGood (maps count cpu page)
unfolding maps
maps_good zero cpu page low within = none_good
maps_good (suc more) cpu page low within =
    both_good (map_line cpu page) (maps more cpu (page + 1)) (map_good cpu page low (omega (arith, within))) (maps_good more cpu (page + 1) low (omega (arith, within)))

pge_good : (cpu : ℕ) → cpu < 16 → IsGood (pge_line cpu)
pge_good cpu low = elim (cases_Bool (cpu % 2 == 0)) [
  | inl even ↦ rw even (subst IsGood (sym (pge_is_line cpu)) (line_good (pge_body cpu) (command.Ask cpu (ask.Pge true)) (pge_reads cpu low) refl))
  | inr odd ↦ rw odd none_good
]

processors_good : (count cpu : ℕ) → cpu + count ≤ 16 → IsGood (processors count cpu)
unfolding processors
processors_good zero cpu within = none_good
processors_good (suc more) cpu within =
    both_good (processor_lines cpu) (processors more (cpu + 1))
    (both_good (pge_line cpu) (maps 64 cpu 0) (pge_good cpu (omega (arith, within))) (maps_good 64 cpu 0 (omega (arith, within)) (omega arith)))
    (processors_good more (cpu + 1) (omega (arith, within)))

-- ---- whole texts

-- what stands behind the first command
abbrev behind_first : ℕ → List ℕ
behind_first n = maps 64 0 0 ++ (processors 15 1 ++ rounds 8 0 n)

first_processor : processors 16 0 ≡ (pge_line 0 ++ maps 64 0 0) ++ processors 15 1
unfolding processors
first_processor = refl

made_in_parts : (n : ℕ) → make_text n ≡ head_text ++ (pge_line 0 ++ behind_first n)
made_in_parts n =
    append_assoc head_text (processors 16 0) (rounds 8 0 n)
    ∙ ap (λ l. head_text ++ (l ++ rounds 8 0 n)) first_processor
    ∙ ap (λ l. head_text ++ l) (append_assoc (pge_line 0 ++ maps 64 0 0) (processors 15 1) (rounds 8 0 n) ∙ append_assoc (pge_line 0) (maps 64 0 0) (processors 15 1 ++ rounds 8 0 n))

head_good : (end : Place) (rest : List ℕ) → offence_in end 1 (lines_of (head_text ++ (pge_line 0 ++ rest))) at_start [] ≡ offence_in end 11 (lines_of rest) ready []
unfolding digits
head_good end rest = refl

behind_good : (n : ℕ) → IsGood (behind_first n)
behind_good n =
    both_good (maps 64 0 0) (processors 15 1 ++ rounds 8 0 n) (maps_good 64 0 0 (omega arith) (omega arith))
    (both_good (processors 15 1) (rounds 8 0 n) (processors_good 15 1 (omega arith)) (rounds_good 8 0 n))

pub made_without_offence : (n : ℕ) → script_offence (make_text n) ≡ None
made_without_offence n =
    let end : Place = end_of (make_text n) in
    let good = behind_good n end 11 [] in
    ap (λ l. offence_in end 1 (lines_of l) at_start []) (made_in_parts n ∙ ap (λ l. head_text ++ (pge_line 0 ++ l)) (sym (append-nil (behind_first n))))
    ∙ head_good end (behind_first n ++ []) ∙ good.1

pub made_shows : (n : ℕ) → ShowsDump (make_text n) made_dump
made_shows n = subst (λ l. ShowsDump l made_dump) (sym (made_in_parts n)) (made_shown (pge_line 0 ++ behind_first n))

pub made_done : (n : ℕ) → (transcript (make_text n)).status ≡ Done
made_done n = (done_where_no_offence (make_text n)).1 (made_without_offence n, (accepted_unless_refused (make_text n) made_dump (made_shows n)).1 made_accepted)

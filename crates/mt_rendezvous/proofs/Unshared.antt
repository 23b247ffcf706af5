-- If no cache has a line, an update leaves memory as it is. So over no memory it leaves the same processors.
use Rattle.std.proofs.Common.{◌≡◌, ◌==◌, ℕ, List, [], ◌∷◌, length, map, Option, None, Bool, true, false, refl, sym, ap, ◌∙◌, arith}
use Rattle.std.specs.List.{list_all}
use Rattle.std.specs.Option.{option_map_or, option_or}
use Rattle.std.proofs.lemmas.Bool.{eqb-true}
use Rattle.mt_laws.specs.Parts.{system}
use Rattle.mt_cache.specs.declared.line.CacheLine.{CacheLine}
use Rattle.mt_machine.specs.Memory.{IsMemory, Memory, word_at}
use Rattle.mt_machine.specs.System.{Processor, dirty_word, dirty_word_in, now}
use Rattle.mt_machine.specs.Update.{addresses}
use Rattle.mt_regs.specs.RegisterFile.{RegisterFile}
use Rattle.mt_laws.proofs.Barrier.Ranks.{and_left, and_right}
use Rattle.mt_laws.proofs.Updates.Addresses.{words_are}
use Rattle.mt_rendezvous.specs.Update.{has_empty_cache, left_by}

abbrev pub no_memory : Memory
no_memory = record { windows = []; words = [] }

none_of : (ls : List CacheLine) → (length ls == 0) ≡ true → ls ≡ []
none_of [] is = refl
none_of (l ∷ ls) is = let e = eqb-true (length (l ∷ ls)) 0 is in absurd (omega arith)

no_dirty_word : (ps : List Processor) (a : ℕ) → list_all has_empty_cache ps ≡ true → dirty_word_in ps a ≡ None
no_dirty_word [] a empty = refl
no_dirty_word (p ∷ ps) a empty =
    ap (λ (ls : List CacheLine). option_or (dirty_word ls a) (dirty_word_in ps a)) (none_of p.lines (and_left (has_empty_cache p) (list_all has_empty_cache ps) empty))
    ∙ no_dirty_word ps a (and_right (has_empty_cache p) (list_all has_empty_cache ps) empty)

same_words : (ps : List Processor) (m : Memory) → list_all has_empty_cache ps ≡ true → IsMemory m → m.words ≡ map (now (system ps m)) (addresses m.windows)
same_words ps m empty memory = words_are m (now (system ps m)) memory (λ a whole. sym (ap (λ (o : Option ℕ). option_map_or (λ v. v) o (word_at m a)) (no_dirty_word ps a empty)))

pub left_alone : (given : Bool) (ps done : List Processor) (m rest : Memory) (goal : RegisterFile) → list_all has_empty_cache ps ≡ true → IsMemory m
    → system done rest ≡ left_by given (system ps no_memory) goal → system done m ≡ left_by given (system ps m) goal
left_alone true ps done m rest goal empty memory is =
    λ i. system (is i).processors (record { windows = m.windows; words = same_words ps m empty memory i })
left_alone false ps done m rest goal empty memory is = λ i. system (is i).processors m

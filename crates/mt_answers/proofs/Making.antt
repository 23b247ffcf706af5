-- Parts of a text for measurements, one after the other.
use Rattle.std.proofs.Common.{◌≡◌, ◌∙◌, ℕ, suc, ◌+◌, ◌-◌, ◌<◌, List, ◌++◌, sym, ap, append_assoc, arith}
use Rattle.std.proofs.lemmas.List.{append-nil}
use Rattle.mt_answers.specs.Generator.{access_line, accesses, after_accesses, behind_access, map_line, maps, processor_lines, processors, round_text, rounds}

-- what is left of the parts goes on with the next one
goes_on : (text part rest whole all : List ℕ) → text ++ all ≡ whole → all ≡ part ++ rest → (text ++ part) ++ rest ≡ whole
goes_on text part rest whole all so_far first = append_assoc text part rest ∙ ap (λ l. text ++ l) (sym first) ∙ so_far

pub accesses_on : (text whole : List ℕ) (i x : ℕ) → i < 512 → text ++ accesses (512 - i) x ≡ whole → (text ++ access_line x) ++ accesses (512 - (i + 1)) (behind_access x) ≡ whole
unfolding accesses
accesses_on text whole i x within so_far =
    let e : 512 - i ≡ suc (512 - (i + 1)) = omega arith in
    goes_on text (access_line x) (accesses (512 - (i + 1)) (behind_access x)) whole (accesses (512 - i) x) so_far (ap (λ n. accesses n x) e)

pub after_on : (i x end : ℕ) → i < 512 → after_accesses (512 - i) x ≡ end → after_accesses (512 - (i + 1)) (behind_access x) ≡ end
unfolding after_accesses
after_on i x end within so_far = let e : 512 - i ≡ suc (512 - (i + 1)) = omega arith in ap (λ n. after_accesses n x) (sym e) ∙ so_far

pub accesses_end : (text whole : List ℕ) (x : ℕ) → text ++ accesses 0 x ≡ whole → text ≡ whole
unfolding accesses
accesses_end text whole x so_far = sym (append-nil text) ∙ so_far

pub after_end : (x end : ℕ) → after_accesses 0 x ≡ end → x ≡ end
unfolding after_accesses
after_end x end so_far = so_far

pub rounds_on : (text whole : List ℕ) (i x : ℕ) → i < 8 → text ++ rounds (8 - i) i x ≡ whole → (text ++ round_text i x) ++ rounds (8 - (i + 1)) (i + 1) (after_accesses 512 x) ≡ whole
unfolding rounds
rounds_on text whole i x within so_far =
    let e : 8 - i ≡ suc (8 - (i + 1)) = omega arith in
    goes_on text (round_text i x) (rounds (8 - (i + 1)) (i + 1) (after_accesses 512 x)) whole (rounds (8 - i) i x) so_far (ap (λ n. rounds n i x) e)

pub rounds_end : (text whole : List ℕ) (i x : ℕ) → text ++ rounds 0 i x ≡ whole → text ≡ whole
unfolding rounds
rounds_end text whole i x so_far = sym (append-nil text) ∙ so_far

pub maps_on : (text whole : List ℕ) (cpu i : ℕ) → i < 64 → text ++ maps (64 - i) cpu i ≡ whole → (text ++ map_line cpu i) ++ maps (64 - (i + 1)) cpu (i + 1) ≡ whole
unfolding maps
maps_on text whole cpu i within so_far =
    let e : 64 - i ≡ suc (64 - (i + 1)) = omega arith in
    goes_on text (map_line cpu i) (maps (64 - (i + 1)) cpu (i + 1)) whole (maps (64 - i) cpu i) so_far (ap (λ n. maps n cpu i) e)

pub maps_end : (text whole : List ℕ) (cpu i : ℕ) → text ++ maps 0 cpu i ≡ whole → text ≡ whole
unfolding maps
maps_end text whole cpu i so_far = sym (append-nil text) ∙ so_far

pub processors_on : (text whole : List ℕ) (i : ℕ) → i < 16 → text ++ processors (16 - i) i ≡ whole → (text ++ processor_lines i) ++ processors (16 - (i + 1)) (i + 1) ≡ whole
unfolding processors
processors_on text whole i within so_far =
    let e : 16 - i ≡ suc (16 - (i + 1)) = omega arith in
    goes_on text (processor_lines i) (processors (16 - (i + 1)) (i + 1)) whole (processors (16 - i) i) so_far (ap (λ n. processors n i) e)

pub processors_end : (text whole : List ℕ) (i : ℕ) → text ++ processors 0 i ≡ whole → text ≡ whole
unfolding processors
processors_end text whole i so_far = sym (append-nil text) ∙ so_far

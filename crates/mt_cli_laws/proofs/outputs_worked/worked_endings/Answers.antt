use Rattle.std.proofs.Common.{◌≡◌, ◌∙◌, sym, List, [], ◌∷◌, ◌++◌, ℕ, ◌<◌, refl, arith, ap, length, length-append, inl, inr, None, Some, Option}
use Rattle.std.specs.Prelude.{codes}
use Rattle.mt_ports.specs.declared.status.Status.{Status}
use Rattle.mt_ports.specs.declared.status.Status.TheVariants as status
use Rattle.mt_script.specs.Newcomers.{IsWithoutNewcomers}
use Rattle.mt_replay.specs.Transcript.{transcript}
use Rattle.mt_output.specs.Lines.{usage_line}
use Rattle.mt_cli.specs.Output.{Output, usage, bad_text, answered, printed, replayed, summed, measured, requested}
use Rattle.mt_cli.specs.Tool.{Starved, took}
use Rattle.mt_cli_laws.proofs.outputs_worked.worked_endings.Goals as goal

-- without words the output is one line
of_no_words : (bytes text : List ℕ) (s : Status) → Output [] bytes text s → text ≡ usage_line
of_no_words bytes _ _ (usage is) = refl
of_no_words bytes _ _ (bad_text command fault is offence) = cc is
of_no_words bytes _ _ (answered command file text s is shown answer) = cc is
of_no_words bytes _ _ (printed command text is own) = cc is
of_no_words bytes _ _ (summed n is) = cc is
of_no_words bytes _ _ (measured cpus n accesses is) = cc is
of_no_words bytes _ _ (requested cpus is) = cc is
of_no_words bytes _ _ (replayed is) = cc is

status_of_no_words : (bytes text : List ℕ) (s : Status) → Output [] bytes text s → s ≡ status.Usage
status_of_no_words bytes _ _ (usage is) = refl
status_of_no_words bytes _ _ (bad_text command fault is offence) = cc is
status_of_no_words bytes _ _ (answered command file text s is shown answer) = cc is
status_of_no_words bytes _ _ (printed command text is own) = cc is
status_of_no_words bytes _ _ (summed n is) = cc is
status_of_no_words bytes _ _ (measured cpus n accesses is) = cc is
status_of_no_words bytes _ _ (requested cpus is) = cc is
status_of_no_words bytes _ _ (replayed is) = cc is

abbrev taken : Option (List ℕ) → List ℕ
taken None = []
taken (Some bytes) = bytes

abbrev first : List ℕ → ℕ
first [] = 0
first (a ∷ rest) = a

abbrev second : List ℕ → ℕ
second [] = 0
second (a ∷ rest) = first rest

-- a front that isn't empty begins as the whole
begins : (front back : List ℕ) (a b : ℕ) → first (front ++ back) ≡ a → first front ≡ b → 0 < b → a < b → ⊥
begins [] back a b whole part some apart = omega (arith, part, some)
begins (x ∷ front) back a b whole part some apart = omega (arith, whole, part, apart)

pub returns-clause-finished : goal.returns-clause-finished
returns-clause-finished c = record { text = usage_line; output = usage refl; taken = refl; read = refl }

pub returns-clause-cut_short : goal.returns-clause-cut_short
returns-clause-cut_short c = record { text = usage_line; status = status.Usage; output = usage refl; front = codes "us"; back = codes "age\n"; cut = refl; taken = refl }

pub returns-clause-not_written : goal.returns-clause-not_written
returns-clause-not_written c = λ h. omega (arith, ap (λ b. length (taken b)) h.taken, ap length (of_no_words _ h.text _ h.output))

pub returns-clause-no_front : goal.returns-clause-no_front
returns-clause-no_front c = λ h.
    begins h.front h.back 117 120 (ap first (sym h.cut ∙ of_no_words _ h.text h.status h.output)) (sym (ap (λ b. second (taken b)) h.taken)) (omega arith) (omega arith)

pub returns-clause-other_status : goal.returns-clause-other_status
returns-clause-other_status c = λ h. let e : status.Done ≡ status.Usage = status_of_no_words _ h.text _ h.output in absurd (cc e)

pub returns-clause-something_read : goal.returns-clause-something_read
returns-clause-something_read c = λ h. omega (arith, ap (λ b. length (taken b)) h.read)

pub returns-clause-lost_before : goal.returns-clause-lost_before
returns-clause-lost_before c = λ h. omega (arith, ap (λ b. length (taken b)) h.taken)

pub returns-clause-failed_read : goal.returns-clause-failed_read
returns-clause-failed_read c = refl

pub returns-clause-written_at_a_failed_read : goal.returns-clause-written_at_a_failed_read
returns-clause-written_at_a_failed_read c = λ h. omega (arith, ap (λ b. length (taken b)) h)

pub returns-clause-written_at_too_long : goal.returns-clause-written_at_too_long
returns-clause-written_at_too_long c = λ h. omega (arith, ap (λ b. length (taken b)) h)

pub returns-clause-starved : goal.returns-clause-starved
returns-clause-starved c = inl refl

pub returns-clause-reads_usage : goal.returns-clause-reads_usage
returns-clause-reads_usage c = λ h. omega (arith, ap (λ b. length (taken b)) h)

pub returns-clause-reads_too_long : goal.returns-clause-reads_too_long
returns-clause-reads_too_long c = λ h. omega (arith, h)

pub returns-clause-reads_to_the_end : goal.returns-clause-reads_to_the_end
returns-clause-reads_to_the_end c = λ h. omega (arith, ap (λ b. length (taken b)) h.read)

of_replay : (bytes text : List ℕ) (s : Status) → Output (codes "replay" ∷ []) bytes text s → text ≡ (transcript bytes).text
of_replay bytes _ _ (usage is) = cc is
of_replay bytes _ _ (bad_text command fault is offence) = cc is
of_replay bytes _ _ (answered command file text s is shown answer) = cc is
of_replay bytes _ _ (printed command text is own) = cc is
of_replay bytes _ _ (summed n is) = cc is
of_replay bytes _ _ (measured cpus n accesses is) = cc is
of_replay bytes _ _ (requested cpus is) = cc is
of_replay bytes _ _ (replayed is) = refl

more : (bytes : List ℕ) → IsWithoutNewcomers bytes → Starved (codes "replay" ∷ []) bytes (took [] (Some (codes "accepted\nok\n"))) → ⊥
more bytes without (inl is) = omega (arith, ap (λ b. length (taken b)) is)
more bytes without (inr (is, first_line, short)) =
    let (front, back, cut, grows) = first_line without in
    omega (arith, ap length cut, length-append front back, ap length grows)

pub returns-clause-more_without_memory : goal.returns-clause-more_without_memory
returns-clause-more_without_memory c = more

-- a script in which a processor joins
abbrev joins : List ℕ
joins = codes "cpus 1\ndump\n0fe 0\nend\ncr3 0\njoin\n"

other_behind : Starved (codes "replay" ∷ []) joins (took [] (Some (codes "x"))) → ⊥
other_behind (inl is) = omega (arith, ap (λ b. length (taken b)) is)
other_behind (inr (is, first_line, short)) =
    begins short.front short.back 97 120 (ap first (sym short.cut ∙ of_replay joins short.text short.status short.output)) (sym (ap (λ b. first (taken b)) short.taken)) (omega arith) (omega arith)

pub returns-clause-other_line_behind_a_newcomer : goal.returns-clause-other_line_behind_a_newcomer
returns-clause-other_line_behind_a_newcomer c = other_behind

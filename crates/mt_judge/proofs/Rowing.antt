-- The lines of a transcript have the turns of its run, and lead to its end.
use Rattle.std.proofs.Common.{◌≡◌, ◌∙◌, ap, subst, sym, ℕ, true, List, [], ◌∷◌, if◌then◌else◌, Option, None, Some}
use Rattle.std.specs.Prelude.{IsSomeAnd}
use Rattle.std.specs.List.{fold}
use Rattle.std.specs.Option.{option_map}
use Rattle.mt_procedure.specs.Runs.{Case, IsRun, State, may_take, move_of, next_step, run, taken}
use Rattle.mt_procedure.specs.declared.step.ProcedureStep.{ProcedureStep}
use Rattle.mt_procedure.specs.declared.turn.Turn.{Turn}
use Rattle.mt_procedure.specs.declared.turn.Turn.TheVariants.{Fetch, Step, Translate}
use Rattle.mt_judge.specs.Rows.{state_after, state_behind, turns_told}
use Rattle.mt_judge.specs.Told.{AreTold, IsTranscript, TellsMove, TellsStep}
use Rattle.mt_judge.specs.declared.transcript.Told.{Told}
use Rattle.mt_judge.specs.declared.transcript.Told.TheVariants as line
use Rattle.mt_judge.specs.declared.transcript.ToldStep.{ToldStep}
use Rattle.mt_judge.specs.declared.transcript.Transcript.{Transcript}

module _ (c : Case) where
  same_step : (s u : State) (k : ℕ) (x : ToldStep) (o : Option ProcedureStep) → IsSomeAnd (option_map (move_of c s k) o) (λ m. TellsStep c s m u x) → Step x.done.cpu ≡ Step k
  same_step s u k x None h = absurd h
  same_step s u k x (Some todo) h = ap (λ m. Step m.cpu) h.done

  same_turn : (s : State) (t : Turn) (x : ToldStep) → TellsMove c s t x → Step x.done.cpu ≡ t
  same_turn s (Step k) x h = same_step s (taken c s (Step k)) k x (next_step c s k) h
  same_turn s (Translate k page) x h = absurd h
  same_turn s (Fetch k line) x h = absurd h

  goes_behind : (s : State) (t u : Turn) → may_take c s t ≡ true → u ≡ t → state_after c s u ≡ taken c s t
  goes_behind s t u may same = ap (state_after c s) same ∙ ap (λ b. if b then taken c s t else s) may

  -- one more turn in front of turns that are told
  turn_more : (s : State) (ts rest : List Turn) (t u : Turn) (xs : List Told) → may_take c s t ≡ true → u ≡ t → ts ≡ t ∷ rest
      → (turns_told xs ≡ rest) × (fold (state_behind c) (taken c s t) xs ≡ run c (taken c s t) rest)
      → (u ∷ turns_told xs ≡ ts) × (fold (state_behind c) (state_after c s u) xs ≡ run c s ts)
  turn_more s ts rest t u xs may same is on = (
    ap (λ v. v ∷ turns_told xs) same ∙ ap (λ us. t ∷ us) on.0 ∙ sym is,
    ap (λ v. fold (state_behind c) v xs) (goes_behind s t u may same) ∙ on.1 ∙ ap (λ us. run c s us) (sym is),
  )

  tells : (s : State) (ts : List Turn) (xs : List Told) → AreTold c s ts xs → IsRun c s ts → (turns_told xs ≡ ts) × (fold (state_behind c) s xs ≡ run c s ts)
  tells s ts [] h r = (sym h, ap (λ us. run c s us) (sym h))
  tells s ts (line.Step x ∷ xs) (t, rest, is, told, h) r =
      let now = subst (λ us. IsRun c s us) is r in
      turn_more s ts rest t (Step x.done.cpu) xs now.0 (same_turn s t x told) is (tells (taken c s t) rest xs h now.1)
  tells s ts (line.Speculation x ∷ xs) (t, rest, is, told, h) r =
      let now = subst (λ us. IsRun c s us) is r in
      turn_more s ts rest t x.turn xs now.0 told.told.turn is (tells (taken c s t) rest xs h now.1)
  tells s ts (line.Pause cpu step ∷ xs) h r = tells s ts xs h.2 r
  tells s ts (line.Idle t why ∷ xs) h r = tells s ts xs h.2 r
  tells s ts (line.Unfinished cpu phase due arrived ∷ xs) h r = tells s ts xs h.4 r

pub rows_follow : (c : Case) (s : State) (ts : List Turn) (t : Transcript) → IsTranscript c s ts t → (turns_told t.told.items ≡ ts) × (fold (state_behind c) s t.told.items ≡ run c s ts)
rows_follow c s ts t h = tells c s ts t.told.items h.told h.runs

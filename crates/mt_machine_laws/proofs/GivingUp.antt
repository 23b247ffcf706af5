-- What is left where a newcomer's update is cancelled, and where a processor is retired.
use Rattle.std.proofs.Common.{◌≡◌, ◌∙◌, ap, sym, refl, ℕ, List, [], ◌∷◌, ◌++◌, length, None, Some, slice_get}
use Rattle.std.specs.Prelude.{map}
use Rattle.std.specs.Option.{option_map}
use Rattle.std.proofs.lemmas.Option.{slice_get-map}
use Rattle.mt_regs.specs.RegisterFile.{RegisterFile, blank_file}
use Rattle.mt_machine.specs.System.{Processor, System}
use Rattle.mt_machine.specs.Bus.{drain}
use Rattle.mt_machine.specs.Machine.{Machine, run}
use Rattle.mt_machine.specs.ComingAndGoing.{newcomer_beside, reset, with_newcomer}
use Rattle.mt_machine.specs.Update.{emptied, takes_of}
use Rattle.mt_laws.proofs.Invariant.Coming.{reset_stays_quiet}
use Rattle.mt_laws.proofs.Invariant.Going.{gone_keeps_words, others_stand}
use Rattle.mt_laws.proofs.Translations.Views.{drain_views}
use Rattle.mt_laws.proofs.Updates.Cancelled.{cancelled_update}
use Rattle.mt_core.proofs.Stepping.{is_sound}
use Rattle.mt_admit.specs.Admission.{brought_up, first_file}
use Rattle.mt_admit.specs.Laws.{CancelledNewcomersStayBlank, RetiredLeaveTheOthers}
use Rattle.mt_admit.proofs.Calling.{call_enabled, first, first_is, quiet_of, reset_is}

-- fences leave the registers
emptied_files : (ks : List ℕ) (s : System) → map (λ p. p.file) (emptied s ks).processors ≡ map (λ p. p.file) s.processors
emptied_files [] s = refl
emptied_files (k ∷ ks) s = emptied_files ks (drain k s) ∙ drain_views RegisterFile (λ p. p.file) (λ f p. refl) (λ f p. refl) k s

behind_all : (ps : List Processor) (q : Processor) → slice_get (ps ++ q ∷ []) (length ps) ≡ Some q
behind_all [] q = refl
behind_all (p ∷ ps) q = behind_all ps q

pub cancelled_newcomers_stay_blank : CancelledNewcomersStayBlank
cancelled_newcomers_stay_blank m es h enabled led none =
    let s : System = m.system in
    let n : ℕ = length m.system.processors in
    let goal : RegisterFile = first_file m.system in
    let quiet = quiet_of m h in
    let is : run (brought_up m) es ≡ record { system = emptied (reset m.system) (takes_of es); order = None } =
    cancelled_update (with_newcomer m) goal es (reset_stays_quiet m quiet) (call_enabled m quiet h.some, enabled) led none in
    let q : Processor = newcomer_beside (first m.system h.some).0 in
    record {
      fences = is;
      blank = λ p at.
          let files = emptied_files (takes_of es) (reset m.system) in
          let there : slice_get (emptied (reset m.system) (takes_of es)).processors n ≡ Some p = ap (λ (t : Machine). slice_get t.system.processors n) (sym is) ∙ at in
          let last : slice_get (reset m.system).processors n ≡ Some q = ap (λ (t : System). slice_get t.processors n) (reset_is s h.some) ∙ behind_all m.system.processors q in
          let same : Some p.file ≡ Some q.file =
          sym (slice_get-map (λ r. r.file) (emptied (reset m.system) (takes_of es)).processors n ∙ ap (option_map (λ r. r.file)) there)
          ∙ ap (λ (fs : List RegisterFile). slice_get fs n) files
          ∙ slice_get-map (λ r. r.file) (reset m.system).processors n ∙ ap (option_map (λ r. r.file)) last in
          let file : p.file ≡ q.file = cc in
          file ∙ ap (λ (f : RegisterFile). blank_file f.width f.capabilities) (sym (first_is s h.some));
    }

pub retired_leave_the_others : RetiredLeaveTheOthers
retired_leave_the_others m h = record {
  words = λ address whole. gone_keeps_words m.system address h.some (is_sound m h.arises) whole;
  others = others_stand m.system;
}

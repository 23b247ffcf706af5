use Rattle.std.proofs.Common.{◌≡◌, ◌∙◌, ◌-◌, ℕ, List, ap, arith, inl, inr, refl, subst, sym, take}
use Rattle.std.proofs.lemmas.List.{length-map, length-take}
use Rattle.mt_gran.specs.declared.fault.GranFault.TheVariants.{TooFew}
use Rattle.mt_gran.specs.Grained.{IsGrained, IsWhy}
use Rattle.mt_gran.specs.Listed.{grained_in, runs_in}
use Rattle.mt_gran.proofs.GranuleSizes.{one_log}
use Rattle.mt_plain.specs.declared.plain.PlainLoss.{PlainLoss}
use Rattle.mt_plain.specs.declared.plain.PlainRegisters.{PlainRegisters}
use Rattle.mt_plain.specs.declared.plain.PlainRun.{PlainRun}
use Rattle.mt_plain.specs.Plain.{file_in}
use Rattle.mt_plain.specs.Rounding.{as_tidy, places}
use Rattle.mt_plain.specs.Tidying.{need_words, why_status}
use Rattle.mt_regs.specs.RegisterFile.{pair_count}
use Rattle.mt_tidy.specs.Packed.{run_of}
use Rattle.mt_tidy.specs.Tidied.{tidying}
use Rattle.mt_plain.proofs.rounded.gran.Goals as goal

same_need : (file : PlainRegisters) (loss : PlainLoss) (parts : List PlainRun) (a b needs has : ℕ) → a ≡ needs → b ≡ has
    → places file (record { needs = a; has = b }) loss parts ≡ places file (record { needs = needs; has = has }) loss parts
same_need file loss parts a b needs has first second =
    ap (λ n. places file (record { needs = n; has = b }) loss parts) first ∙ ap (λ n. places file (record { needs = needs; has = n }) loss parts) second

pub returns-in-Ok-clause-file : goal.returns-in-Ok-clause-file
returns-in-Ok-clause-file c = λ is log has.
    let found = c.in-Some-granule_log.log in
    let tidied = c.in-Ok.tidied in
    let count = c.gran_in.new.lost.parts in
    let grained = grained_in tidied c.gran_in.new.lost c.gran_in.new.area.wanted in
    let t = tidying (file_in c.args.r.now) c.args.chunk c.args.spare in
    let at_file = subst (λ f. IsGrained (tidying f c.args.chunk c.args.spare) found grained) c.in-Some.ensures.file c.in-Ok.ensures.ok in
    let at_log = subst (λ g. IsGrained t g grained) (one_log c.args.size found log c.in-Some-granule_log.ensures.some has) at_file in
    inl
    (record {
      parts = runs_in count c.gran_in.new.area.wanted;
      words = c.put_words.ensures.words;
      grained = subst (λ h. IsGrained t log (grained_in (record { file = h; used = tidied.used }) c.gran_in.new.lost c.gran_in.new.area.wanted))
          (sym c.put_words.ensures.file) at_log;
      has_is = c.usable_pairs.ensures ∙ ap (λ f. pair_count f - c.args.spare) c.in-Some.ensures.file;
      count_is = omega (
        arith,
        length-map (take count c.gran_in.new.area.wanted) run_of,
        length-take count c.gran_in.new.area.wanted,
        c.in-Ok.ensures.few.1,
      );
      few = c.in-Ok.ensures.few.0;
      array = c.put_runs.ensures;
      status_is = c.room_status.ensures;
    })

pub returns-in-Err-Refused-clause-file : goal.returns-in-Err-Refused-clause-file
returns-in-Err-Refused-clause-file c = λ is log has.
    let found = c.in-Some-granule_log.log in
    let fault = c.in-Err-Refused.field-0 in
    let at_file = subst (λ f. IsWhy (tidying f c.args.chunk c.args.spare) found fault) c.in-Some.ensures.file c.in-Err-Refused.ensures.err in
    inr
    (record {
      fault = fault;
      why = subst (λ g. IsWhy (tidying (file_in c.args.r.now) c.args.chunk c.args.spare) g fault) (one_log c.args.size found log c.in-Some-granule_log.ensures.some has) at_file;
      status_is = sym (ap (λ f. why_status (as_tidy f)) c.in-Err-Refused.field-0-is);
      kept = sym (ap (λ f. places c.args.rounded.now (need_words (as_tidy f) c.args.need.now) c.args.loss.now c.args.parts.now) c.in-Err-Refused.field-0-is);
    })

pub returns-in-Err-TooFew-clause-file : goal.returns-in-Err-TooFew-clause-file
returns-in-Err-TooFew-clause-file c = λ is log has.
    let found = c.in-Some-granule_log.log in
    let needs = c.in-Err-TooFew.needs in
    let fault = TooFew needs c.in-Err-TooFew.has in
    let why = subst (IsWhy (tidying c.in-Some.file c.args.chunk c.args.spare) found) c.in-Err-TooFew.field-0-is c.in-Err-TooFew.ensures.err in
    let at_file = subst (λ f. IsWhy (tidying f c.args.chunk c.args.spare) found fault) c.in-Some.ensures.file why in
    inr
    (record {
      fault = fault;
      why = subst (λ g. IsWhy (tidying (file_in c.args.r.now) c.args.chunk c.args.spare) g fault) (one_log c.args.size found log c.in-Some-granule_log.ensures.some has) at_file;
      status_is = refl;
      kept = same_need c.args.rounded.now c.args.loss.now c.args.parts.now _ _ needs c.in-Err-TooFew.has c.in-Err-TooFew.needs-is c.in-Err-TooFew.has-is;
    })

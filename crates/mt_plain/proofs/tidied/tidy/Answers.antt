use Rattle.std.proofs.Common.{◌∙◌, ◌-◌, ap, inl, inr, refl, subst, sym}
use Rattle.mt_plain.specs.Plain.{file_in}
use Rattle.mt_plain.specs.Tidying.{need_words, why_status}
use Rattle.mt_regs.specs.RegisterFile.{pair_count}
use Rattle.mt_tidy.specs.Kept.{IsTidy, IsWhy}
use Rattle.mt_tidy.specs.Tidied.{tidying}
use Rattle.mt_plain.proofs.tidied.tidy.Goals as goal

pub returns-in-Ok-clause-file : goal.returns-in-Ok-clause-file
returns-in-Ok-clause-file c = λ is.
    let t = tidying (file_in c.args.r.now) c.args.chunk c.args.spare in
    let at_file = subst (λ f. IsTidy (tidying f c.args.chunk c.args.spare) c.in-Ok.answer) c.in-Some.ensures.file c.in-Ok.ensures.ok in
    inl
    (record {
      status_is = refl;
      words = c.put_words.ensures.words;
      tidy = subst (λ h. IsTidy t (record { file = h; used = c.in-Ok.answer.used })) (sym c.put_words.ensures.file) at_file;
      has_is = c.usable_pairs.ensures ∙ ap (λ f. pair_count f - c.args.spare) c.in-Some.ensures.file;
    })

pub returns-in-Err-Refused-clause-file : goal.returns-in-Err-Refused-clause-file
returns-in-Err-Refused-clause-file c = λ is.
    inr
    (record {
      fault = c.in-Err-Refused.field-0;
      why = subst (λ f. IsWhy (tidying f c.args.chunk c.args.spare) c.in-Err-Refused.field-0) c.in-Some.ensures.file c.in-Err-Refused.ensures.err;
      status_is = sym (ap why_status c.in-Err-Refused.field-0-is);
      same = refl;
      need_is = sym (ap (λ f. need_words f c.args.need.now) c.in-Err-Refused.field-0-is);
    })

use Rattle.std.proofs.Common.{◌≡◌, ◌∙◌, ap, sym, subst, arith, rules, get_or, map, ℕ, List}
use Rattle.std.specs.List.{range_with_len}
use Rattle.mt_private.specs.declared.job.Job.{Job}
use Rattle.mt_private.specs.declared.job.Part.TheVariants.{After, Before}
use Rattle.mt_private.specs.Jobs.{FitsJob, ops_in}
use Rattle.mt_cli.specs.Measured.{ops_after, ops_before}
use Rattle.mt_cli.proofs.Drawing.{each_push, parts_more}
use Rattle.mt_cli.proofs.measured.jobs_of.Goals as goal

pub loop-k-preserved : goal.loop-k-preserved
loop-k-preserved c =
    let count = c.args.count in
    let n = c.args.n in
    let k = c.loop-k.k in
    let jobs = c.loop-k.jobs.items in
    let job = c.in-Ok-job_of.job in
    record {
      before =
          ap (map (ops_in Before)) c.push_reserved.ensures.items
          ∙ parts_more Before (ops_before n count) jobs k job c.in-Ok-job_of.ensures.before c.loop-k.invariant.before;
      after =
          ap (map (ops_in After)) c.push_reserved.ensures.items
          ∙ parts_more After (ops_after n count) jobs k job c.in-Ok-job_of.ensures.after c.loop-k.invariant.after;
      fits = λ i low d. subst (λ (l : List Job). FitsJob (get_or l i d)) (sym c.push_reserved.ensures.items) (each_push FitsJob jobs k job c.loop-k.invariant.size c.in-Ok-job_of.ensures.fits c.loop-k.invariant.fits i low d);
      size = search rules;
      room = search rules;
    }

pub returns-clause-before : goal.returns-clause-before
returns-clause-before c =
    let all : c.loop-k.k ≡ c.args.cpus = omega arith in
    c.loop-k.invariant.before ∙ ap (λ (k : ℕ). map (ops_before c.args.n c.args.count) (range_with_len 0 k)) all

pub returns-clause-after : goal.returns-clause-after
returns-clause-after c =
    let all : c.loop-k.k ≡ c.args.cpus = omega arith in
    c.loop-k.invariant.after ∙ ap (λ (k : ℕ). map (ops_after c.args.n c.args.count) (range_with_len 0 k)) all

pub returns-clause-fits : goal.returns-clause-fits
returns-clause-fits c k d within = let size = c.loop-k.invariant.size in c.loop-k.invariant.fits k (omega arith) d

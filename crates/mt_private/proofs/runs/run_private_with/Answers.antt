use Rattle.std.proofs.Common.{◌≡◌, refl, rules, subst, None, Some, List}
use Rattle.mt_regs.specs.Faults.{IsAccepted, IsFirstFault}
use Rattle.mt_private.specs.declared.job.Job.{Job}
use Rattle.mt_private.specs.Jobs.{AreOpen}
use Rattle.mt_private.proofs.Causes.{done, no_memory, opens_of, private_where_none, refused, shared}
use Rattle.mt_private.proofs.runs.run_private_with.Goals as goal

pub returns-in-Some : goal.returns-in-Some
returns-in-Some g c =
    let none : c.args.core.now.order ≡ None = search rules in
    let first : IsFirstFault c.args.goal (Some c.in-Some.fault) = search rules in
    refused c.args.core.now c.args.goal c.args.jobs.items none c.in-Some.fault first

pub returns-in-Some-shared_page : goal.returns-in-Some-shared_page
returns-in-Some-shared_page g c =
    let none : c.args.core.now.order ≡ None = search rules in
    let good : IsAccepted c.args.goal = search rules in
    shared c.args.core.now c.args.goal c.args.jobs.items none good c.shared_page.result c.in-Some-shared_page.page c.in-Some-shared_page.is c.shared_page.ensures.least

pub returns-in_default-answers_for : goal.returns-in_default-answers_for
returns-in_default-answers_for g c =
    let none : c.args.core.now.order ≡ None = search rules in
    let good : IsAccepted c.args.goal = search rules in
    let own = private_where_none c.args.core.now.system c.shared_page.result c.in_default-shared_page.not-Some c.shared_page.ensures.none in
    no_memory c.args.core.now c.args.goal c.args.jobs.items none good own c.args.core.now refl

pub visit_all-requires-clause-opens : goal.visit_all-requires-clause-opens
visit_all-requires-clause-opens g c κs within =
    let none : c.args.core.now.order ≡ None = search rules in
    let good : IsAccepted c.args.goal = search rules in
    let own = private_where_none c.args.core.now.system c.shared_page.result c.in_default-shared_page.not-Some c.shared_page.ensures.none in
    opens_of c.args.core.now c.args.goal c.a_core_arises.ensures none c.is_register_file.ensures good own c.requires.update

pub visit_all-requires-clause-open : goal.visit_all-requires-clause-open
visit_all-requires-clause-open g c κs within part = subst (λ (js : List Job). AreOpen part js c.in-Ok.told.items) c.as_slice.ensures.value (c.in-Ok.ensures.open part)

pub returns-in_default-visit_all : goal.returns-in_default-visit_all
returns-in_default-visit_all g c =
    let none : c.args.core.now.order ≡ None = search rules in
    let good : IsAccepted c.args.goal = search rules in
    let own = private_where_none c.args.core.now.system c.shared_page.result c.in_default-shared_page.not-Some c.shared_page.ensures.none in
    no_memory c.args.core.now c.args.goal c.args.jobs.items none good own _ c.in_default-visit_all.ensures.kept

pub returns : goal.returns
returns g c =
    let none : c.args.core.now.order ≡ None = search rules in
    let good : IsAccepted c.args.goal = search rules in
    let own = private_where_none c.args.core.now.system c.shared_page.result c.in_default-shared_page.not-Some c.shared_page.ensures.none in
    done c.args.core.now c.args.goal c.args.jobs.items none good own _ _ c.in-Some-visit_all.ensures.done

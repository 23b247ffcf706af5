use Rattle.std.proofs.Common.{subst}
use Rattle.mt_script.specs.Kept.{IsSituation}
use Rattle.mt_script.specs.Accept.{Fits, accepted}
use Rattle.mt_script.specs.declared.command.Command.TheVariants as command
use Rattle.mt_script.specs.declared.command.Section.TheVariants.{Register}
use Rattle.mt_script.proofs.Keeping.{accepted_is, room_for_register, room_for_window}
use Rattle.mt_script.proofs.setup.Setup.accept.Goals as goal

pub add_window-requires-clause-room : goal.add_window-requires-clause-room
add_window-requires-clause-room c =
    let fits : Fits c.args.self.now (command.Ram c.in-Ram.base c.in-Ram.lines) = subst (Fits c.args.self.now) c.in-Ram.is c.requires.fits in
    room_for_window c.args.self.now c.is_situation.ensures c.in-Ram.base c.in-Ram.lines fits.4

pub add_window-requires-clause-is : goal.add_window-requires-clause-is
add_window-requires-clause-is c =
    subst (λ asked. IsSituation (accepted c.args.self.now asked)) c.in-Ram.is (accepted_is c.args.self.now c.is_situation.ensures c.args.c.now c.requires.fits c.requires.goes_on)

pub begin_section-requires : goal.begin_section-requires
begin_section-requires c =
    subst (λ line. IsSituation (accepted c.args.self.now (command.Section line))) c.in-Update.is
    (subst (λ asked. IsSituation (accepted c.args.self.now asked)) c.in-Section.is (accepted_is c.args.self.now c.is_situation.ensures c.args.c.now c.requires.fits c.requires.goes_on))

pub begin_section-requires-in-Begin : goal.begin_section-requires-in-Begin
begin_section-requires-in-Begin c =
    subst (λ line. IsSituation (accepted c.args.self.now (command.Section line))) c.in-Begin.is
    (subst (λ asked. IsSituation (accepted c.args.self.now asked)) c.in-Section.is (accepted_is c.args.self.now c.is_situation.ensures c.args.c.now c.requires.fits c.requires.goes_on))

pub begin_section-requires-in-End : goal.begin_section-requires-in-End
begin_section-requires-in-End c =
    subst (λ line. IsSituation (accepted c.args.self.now (command.Section line))) c.in-End.is
    (subst (λ asked. IsSituation (accepted c.args.self.now asked)) c.in-Section.is (accepted_is c.args.self.now c.is_situation.ensures c.args.c.now c.requires.fits c.requires.goes_on))

pub add_register-requires-clause-room : goal.add_register-requires-clause-room
add_register-requires-clause-room c =
    let fits : Fits c.args.self.now (command.Section (Register c.in-Register.msr c.in-Register.value)) =
    subst (λ line. Fits c.args.self.now (command.Section line)) c.in-Register.is (subst (Fits c.args.self.now) c.in-Section.is c.requires.fits) in
    room_for_register c.args.self.now c.is_situation.ensures c.in-Register.msr fits.1 fits.2

pub add_register-requires-clause-is : goal.add_register-requires-clause-is
add_register-requires-clause-is c =
    subst (λ line. IsSituation (accepted c.args.self.now (command.Section line))) c.in-Register.is
    (subst (λ asked. IsSituation (accepted c.args.self.now asked)) c.in-Section.is (accepted_is c.args.self.now c.is_situation.ensures c.args.c.now c.requires.fits c.requires.goes_on))

use Rattle.mt_rendezvous.proofs.Ended.{came}
use Rattle.mt_rendezvous.proofs.caller.starting.attend_whole.Goals as goal

pub returns : goal.returns
returns g c = came c.args.shared.now.station c.go_through.result c.args.a.now.pass c.go_through.new.self c.args.a.now.cpu c.go_through.new.cpu c.go_through.ensures.attended c.go_through.ensures.number

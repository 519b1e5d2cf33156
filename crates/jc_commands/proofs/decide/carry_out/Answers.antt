use Rattle.jc_commands.proofs.decide.carry_out.Goals as goal

pub returns-in-Err-clause-stopped : goal.returns-in-Err-clause-stopped
returns-in-Err-clause-stopped g c = rw c.in-Check.is c.in-Err.ensures.stopped

pub returns-in-Err-link_clients-clause-stopped : goal.returns-in-Err-link_clients-clause-stopped
returns-in-Err-link_clients-clause-stopped g c = rw c.in-Link.is c.in-Err-link_clients.ensures.stopped

pub returns-in-Err-make_releases-clause-stopped : goal.returns-in-Err-make_releases-clause-stopped
returns-in-Err-make_releases-clause-stopped g c = rw (c.in-Make.is, c.in-Err-make_releases.ensures.stopped) tt

pub returns-in-Err-help-clause-stopped : goal.returns-in-Err-help-clause-stopped
returns-in-Err-help-clause-stopped g c = rw (c.in-Help.is, c.in-Err-help.ensures.stopped) tt

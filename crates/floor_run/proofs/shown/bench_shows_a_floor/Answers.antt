use Rattle.std.proofs.Common.{map}
use Rattle.floor_run.proofs.ShownLemmas.{shown, opens, won, missed, posted, reported, split, joined, closed}
use Rattle.floor_run.proofs.shown.bench_shows_a_floor.Goals as goal

pub returns-clause-shown : goal.returns-clause-shown
returns-clause-shown g c = shown g.J.Job.meaning g.J.Job.sent g.J.Job.state_after

pub returns-clause-opened : goal.returns-clause-opened
returns-clause-opened g c = λ starts.
    opens g.J.Job.meaning g.J.Job.sent g.J.Job.state_after starts
    (c.floors_stay_sound.ensures.begun (map g.J.Job.meaning starts))

pub returns-clause-won : goal.returns-clause-won
returns-clause-won g c = λ starts s f seat i v start job rule shows.
    won g.J.Job.meaning g.J.Job.sent g.J.Job.state_after starts s f shows rule c.turns_add_up.ensures.turns
    c.floors_stay_sound.ensures.kept seat i v start job

pub returns-clause-missed : goal.returns-clause-missed
returns-clause-missed g c = λ starts s f seat i v start rule shows.
    missed g.J.Job.meaning g.J.Job.sent g.J.Job.state_after starts s f shows rule seat i v start

pub returns-clause-posted : goal.returns-clause-posted
returns-clause-posted g c = λ starts s f seat i shows.
    posted g.J.Job.meaning g.J.Job.sent g.J.Job.state_after starts s f shows c.floors_stay_sound.ensures.kept seat i

pub returns-clause-reported : goal.returns-clause-reported
returns-clause-reported g c = λ starts s f seat v start claim job b rule shows.
    reported g.J.Job.meaning g.J.Job.sent g.J.Job.state_after starts s f shows rule c.turns_add_up.ensures.turns
    c.turns_add_up.ensures.posts c.floors_stay_sound.ensures.kept seat v start claim job b

pub returns-clause-split : goal.returns-clause-split
returns-clause-split g c = λ starts s f v shows.
    split g.J.Job.meaning g.J.Job.sent g.J.Job.state_after starts s f shows v

pub returns-clause-joined : goal.returns-clause-joined
returns-clause-joined g c = λ starts s f other w shows.
    joined g.J.Job.meaning g.J.Job.sent g.J.Job.state_after starts s f shows other w

pub returns-clause-closed : goal.returns-clause-closed
returns-clause-closed g c = λ starts s f rule shows.
    closed g.J.Job.meaning g.J.Job.sent g.J.Job.state_after starts s f shows rule

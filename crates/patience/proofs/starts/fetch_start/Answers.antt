use Rattle.std.proofs.Common.{◌∙◌, ap, inl, subst}
use Rattle.std.proofs.lemmas.Result.{IfOk-weaker, IfErr-weaker}
use Rattle.solver_words.specs.Texts.{texts}
use Rattle.solver_words.specs.declared.job.Job.{Job}
use Rattle.solver_words.specs.declared.job.Source.{Source}
use Rattle.solver_words.specs.declared.job.Job.TheVariants.{Solve}
use Rattle.patience.specs.Asked.{job_asked}
use Rattle.patience.specs.Causes.{HasDeal, takes_deal, seed_of}
use Rattle.patience.proofs.Fetched.{dealt-start, seed-stopped}
use Rattle.patience.proofs.starts.fetch_start.Goals as goal

pub fetch_deal-requires-clause-takes : goal.fetch_deal-requires-clause-takes
fetch_deal-requires-clause-takes g c =
    ap takes_deal c.job.ensures ∙ ap (λ (s : Source). takes_deal (Solve s c.args.asked.cache c.args.asked.nodes
    c.args.asked.narrow c.args.asked.way c.args.asked.memo)) c.in-File.is

pub returns-in-File-clause-accepted : goal.returns-in-File-clause-accepted
returns-in-File-clause-accepted g c = IfOk-weaker c.fetch_deal.result _ _ (λ board has. inl (subst (λ (j : Job).
    HasDeal (g.S.Shelf.files c.args.shelf.now) (texts c.args.words.now) j c.args.rules.now board) c.job.ensures has))
    c.fetch_deal.ensures.accepted

pub returns-in-FromSeed-clause-accepted : goal.returns-in-FromSeed-clause-accepted
returns-in-FromSeed-clause-accepted g c =
    dealt-start (g.S.Shelf.files c.args.shelf.now)
    (texts c.args.words.now) c.args.asked c.in-FromSeed.seed c.args.rules.now
    c.deal_seed.result c.in-FromSeed.is c.requires c.deal_seed.ensures.dealt c.deal_seed.ensures.fits

pub returns-in-FromSeed-clause-stopped : goal.returns-in-FromSeed-clause-stopped
returns-in-FromSeed-clause-stopped g c =
    IfErr-weaker c.deal_seed.result _ _
    (λ stop stopped. seed-stopped
    (record {
      files = g.S.Shelf.files c.args.shelf.now;
      before = g.S.Shelf.faults c.args.shelf.now;
      after = g.S.Shelf.faults c.args.shelf.now;
    })
    (texts c.args.words.now) (job_asked c.args.asked) c.args.rules.now c.in-FromSeed.seed stop
    c.requires (ap (λ (s : Source). seed_of (Solve s c.args.asked.cache c.args.asked.nodes c.args.asked.narrow
    c.args.asked.way c.args.asked.memo)) c.in-FromSeed.is) stopped)
    c.deal_seed.ensures.refused

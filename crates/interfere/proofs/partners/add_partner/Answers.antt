use Rattle.std.proofs.Common.{refl}
use Rattle.interfere.proofs.Moved.{partner_added}
use Rattle.interfere.proofs.partners.add_partner.Goals as goal

pub returns-clause-more : goal.returns-clause-more
returns-clause-more c =
    partner_added c.args.table.now.items _ c.args.number c.args.other c.index_mut-partners.result.now (record { numbers = c.push.new.self })
    c.requires c.index_mut-partners.ensures.value c.in_ok-push.ensures.items refl

use Rattle.laws_headline.proofs.laws.headline_holds.Goals as goal

pub returns : goal.returns
returns c =
    let own = c.own_data_decide_views.ensures in
    let items = c.foreign_items_change_nothing.ensures in
    let steps = c.foreign_changes_stay_unseen.ensures in
    let alike = c.data_that_agree_are_written_alike.ensures in
    let all = c.served_connections_are_complete.ensures in
    record {
      agreement = record { runs = alike.runs; served = alike.served; views = own.views; shared = own.shared };
      foreign = record {
        entry_added = items.entry_added;
        entry_changed = items.entry_changed;
        bundle_added = items.bundle_added;
        bundle_changed = items.bundle_changed;
        sync = steps.sync;
        claim = steps.claim;
        signing = steps.signing;
        failure = steps.failure;
      };
      complete = record {
        statuses = all.statuses;
        answered = all.answered;
        written = all.written;
        held_back = all.held_back;
        asks = all.asks;
        stay = all.stay;
        outcomes = all.outcomes;
      };
    }

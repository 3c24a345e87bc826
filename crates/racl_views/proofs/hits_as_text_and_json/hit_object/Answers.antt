use Rattle.racl_views.proofs.hits_as_text_and_json.hit_object.Goals as goal

pub returns-in-Entered : goal.returns-in-Entered
returns-in-Entered c = rw c.in-Entered.is c.hit_count_object.ensures

pub returns-in-Matched : goal.returns-in-Matched
returns-in-Matched c = rw c.in-Matched.is c.hit_count_object-in-Matched.ensures

pub returns-in-Expired : goal.returns-in-Expired
returns-in-Expired c = rw c.in-Expired.is c.hit_count_object-in-Expired.ensures

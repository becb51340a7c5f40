-- Runs of other clients' threads after the loss of a client.
pub mod RunsSurvive

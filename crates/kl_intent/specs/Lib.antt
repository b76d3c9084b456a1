pub mod IntentText
pub mod Reading
pub mod Outside
